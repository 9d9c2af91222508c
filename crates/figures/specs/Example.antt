-- The worked run, by the list rule: a read overtakes an order, asks again, and shows the order whole. So the law over runs speaks of
-- something.
use Rattle.std.specs.Prelude.{◌≡◌, [], ◌∷◌, Some}
use Rattle.store.specs.Meaning.{LastHeld}
use Rattle.naming.specs.Marks.{list_rule}
use Rattle.protocol.specs.Naming.{Lawful}
use Rattle.protocol.specs.Calls.{file, prepare, commit, close, open_read, first_ask, second_ask, take, release, by_writer, by_reader, refused, accepted}
use Rattle.protocol.specs.State.{Order, State, Untouched}
use Rattle.protocol.specs.Asks.{Finished}
use Rattle.protocol.specs.History.{called, History, filed, Ordered, Prepared, Read, current_read, progress_in}
use Rattle.protocol.specs.Law.{Trace, Next}

-- The newest first: writer 1 orders the items 5 and 130, and has committed the first of them when reader 0 asks for both.
abbrev pub example : History
example =
    called (by_reader 0 (second_ask 1)) (accepted 17 0) ∷ called (by_reader 0 (second_ask 0)) (refused 26) ∷
    called (by_reader 0 (first_ask 1)) (accepted 0 0) ∷ called (by_reader 0 (first_ask 0)) (accepted 17 0) ∷
    called (by_reader 0 (open_read (5 ∷ 130 ∷ []))) (accepted 2 0) ∷ called (by_writer 1 (commit 0)) (accepted 1 0) ∷
    called (by_writer 1 (prepare 1)) (accepted 1 0) ∷ called (by_writer 1 (prepare 0)) (accepted 1 0) ∷
    called (by_writer 1 (file 1 (5 ∷ 130 ∷ []) (655363 ∷ 16908291 ∷ []))) (accepted 17 0) ∷ []

abbrev pub example_order : Order
example_order = filed 1 (5 ∷ 130 ∷ []) (655363 ∷ 16908291 ∷ []) 17

-- The run is possible. By its history the order was prepared at both places and the read is finished. Both places show the order; a
-- release would answer three asks, and a close is still refused.
pub record ReadOvertakes : Type 0 where
  pub lawful : Lawful list_rule
  pub before : State
  pub after : State
  pub last_held : LastHeld before.store
  pub untouched : Untouched before
  pub run : Trace list_rule before example after
  pub is_order : Ordered example example_order
  pub prepared : Prepared example example_order 0 × Prepared example example_order 1
  pub read : Read
  pub is_read : current_read example 0 ≡ Some read
  pub finished : Finished list_rule (progress_in list_rule example read)
  pub first : Next list_rule after (by_reader 0 (take 0)) (accepted 17 655363)
  pub second : Next list_rule after (by_reader 0 (take 1)) (accepted 17 16908291)
  pub asks : Next list_rule after (by_reader 0 release) (accepted 3 0)
  pub not_closed : Next list_rule after (by_writer 1 close) (refused 19)
