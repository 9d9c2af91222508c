-- The reason of each refusal of the service, in words.
use Rattle.std.specs.Prelude.{ℕ, codes}
use Rattle.std.specs.Prelude as std
use Rattle.store.specs.Reasons as store
use Rattle.rows.specs.declared.fault.Fault.{Fault}
use Rattle.rows.specs.declared.fault.Fault.TheVariants.{Store, Writer, OrderOpen, Sequence, List, Item, NoBody, NoOrder, Place, Gathering, Incomplete, Sealed, Reader, ReadOpen, NoRead, Asked, FirstMissing, NotDue, Unfinished, Kind}

-- a store's fault for its own reason
abbrev pub reason_of : Fault → std.List ℕ
reason_of (Store i f) = store.reason_of f
reason_of Writer = codes "a writer is a number from 0 to 15"
reason_of OrderOpen = codes "the writer has an open order"
reason_of Sequence = codes "the sequence is out of range or not above the writer's last"
reason_of List = codes "the list is empty, longer than eight, or not as long as the codes"
reason_of Item = codes "an item is 0 or stands twice"
reason_of NoBody = codes "a code is of no body of its item's kind"
reason_of NoOrder = codes "the writer has no open order"
reason_of Place = codes "the place is beyond the list"
reason_of Gathering = codes "the order is gathering: prepare every place first"
reason_of Incomplete = codes "the order is not complete: commit every place first"
reason_of Sealed = codes "the order is sealed: commit the rest and close"
reason_of Reader = codes "a reader is a number from 0 to 15"
reason_of ReadOpen = codes "the reader has an open read"
reason_of NoRead = codes "the reader has no open read"
reason_of Asked = codes "the first ask was made already"
reason_of FirstMissing = codes "a first ask is missing"
reason_of NotDue = codes "no second ask is due here"
reason_of Unfinished = codes "the read is not finished"
reason_of Kind = codes "the body's kind is not the item's"
