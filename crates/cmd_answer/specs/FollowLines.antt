-- The lines on the error stream with which a run that follows feeds reports on itself and on its feeds.
use Rattle.std.specs.Prelude.{ℕ, Bool, true, false, List, [], ◌∷◌, ◌++◌, codes}
use Rattle.std.specs.Fmt.{decimal}
use Rattle.mon_inventory.specs.Cause.{cause_number}
use Rattle.cmd_answer.specs.declared.follow_line.AbsentFeed.{AbsentFeed}
use Rattle.cmd_answer.specs.declared.follow_line.FollowLine.{FollowLine}
use Rattle.cmd_answer.specs.declared.follow_line.FollowLine.TheVariants.{Following, Waits, Replaced, Anew, Ended, ClockAhead, NewInventory, InventoryRefused, ToldMissing}
use Rattle.cmd_answer.specs.Printed.{ending_text}
use Rattle.cmd_answer.specs.StateStops.{fault_text}

-- the beginning of each line on a feed
abbrev pub of_feed : (feed : ℕ) → (rest : List ℕ) → List ℕ
of_feed feed rest = codes "gateway: feed " ++ (decimal feed ++ rest)

-- the line, with its line feed
abbrev pub follow_line : FollowLine → List ℕ
follow_line (Following feeds entries clock) = codes "gateway: following " ++ (decimal feeds ++ (codes " feeds, " ++ (decimal entries ++ (codes " entries, clock " ++ (decimal clock ++ 10 ∷ [])))))
follow_line (Waits feed line seconds) = of_feed feed (codes " waits: line " ++ (decimal line ++ (codes " is " ++ (decimal seconds ++ (codes " seconds ahead" ++ 10 ∷ [])))))
follow_line (Replaced feed) = of_feed feed (codes ": replaced" ++ 10 ∷ [])
follow_line (Anew feed) = of_feed feed (codes ": begins anew" ++ 10 ∷ [])
follow_line (Ended feed ending) = of_feed feed (codes ": " ++ (ending_text ending ++ 10 ∷ []))
follow_line (ClockAhead seconds) = codes "gateway: clock: " ++ (decimal seconds ++ (codes " seconds ahead" ++ 10 ∷ []))
follow_line (NewInventory hosts services) = codes "gateway: inventory: " ++ (decimal hosts ++ (codes " hosts, " ++ (decimal services ++ (codes " services" ++ 10 ∷ []))))
follow_line (ToldMissing segment line) = codes "gateway: told " ++ (decimal segment ++ (codes "." ++ (decimal line ++ (codes ": not there" ++ 10 ∷ []))))
follow_line (InventoryRefused line cause) = fault_text (codes "gateway: inventory refused: line ") line (cause_number cause)

-- the last words of the line on a feed whose file cannot be read, by whether the file exists
abbrev pub absent_words : (is_there : Bool) → List ℕ
absent_words false = codes ": not there"
absent_words true = codes ": not opened"

-- the line on a feed whose file cannot be read, with its line feed
abbrev pub absent_line : AbsentFeed → List ℕ
absent_line feed = codes "gateway: feed " ++ (feed.path.now ++ (absent_words feed.is_there ++ 10 ∷ []))
