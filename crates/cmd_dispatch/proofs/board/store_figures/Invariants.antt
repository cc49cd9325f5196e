use Rattle.cmd_dispatch.proofs.board.store_figures.Given as goal

abbrev pub ghosts-put : goal.ghosts-put
ghosts-put a = record { list = a._journal.now.entries }
