use Rattle.cmd_explain.proofs.meaning.put_meaning.Goals as goal

pub returns-in-Journal : goal.returns-in-Journal
returns-in-Journal c = rw c.in-Journal.is (rw c.journal_words.ensures at c.put_line-in-Journal.ensures)

pub returns-in-StateInventory : goal.returns-in-StateInventory
returns-in-StateInventory c = rw c.in-StateInventory.is (rw c.inventory_words-in-StateInventory.ensures at c.put_line-in-StateInventory.ensures)

pub returns-in-StateJournal : goal.returns-in-StateJournal
returns-in-StateJournal c = rw c.in-StateJournal.is (rw c.journal_words-in-StateJournal.ensures at c.put_line-in-StateJournal.ensures)
