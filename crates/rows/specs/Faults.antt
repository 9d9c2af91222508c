-- The number of each refusal of the service, and how a store's fault comes up.
use Rattle.std.specs.Prelude.{◌≡◌, ℕ, Some, None, Ok, Err, Option, Result}
use Rattle.blend.specs.declared.refusal.Refusal.{Refusal}
use Rattle.blend.specs.declared.refusal.Refusal.TheVariants as plain_input
use Rattle.store.specs.declared.StoreFault.{StoreFault}
use Rattle.store.specs.Faults as store
use Rattle.rows.specs.declared.fault.Fault.{Fault}
use Rattle.rows.specs.declared.fault.Fault.TheVariants.{Store, Writer, OrderOpen, Sequence, List, Item, NoBody, NoOrder, Place, Gathering, Incomplete, Sealed, Reader, ReadOpen, NoRead, Asked, FirstMissing, NotDue, Unfinished, Kind}
use Rattle.rows.specs.declared.fault.AtItem.{AtItem}

abbrev pub number_of : Fault → ℕ
number_of (Store item fault) = store.number_of fault
number_of Writer = 10
number_of OrderOpen = 11
number_of Sequence = 12
number_of List = 13
number_of Item = 14
number_of NoBody = 15
number_of NoOrder = 16
number_of Place = 17
number_of Gathering = 18
number_of Incomplete = 19
number_of Sealed = 20
number_of Reader = 21
number_of ReadOpen = 22
number_of NoRead = 23
number_of Asked = 24
number_of FirstMissing = 25
number_of NotDue = 26
number_of Unfinished = 27
number_of Kind = 28

abbrev pub with_item : AtItem → Fault
with_item e = Store e.item e.fault

abbrev pub at_item : {X : Type 0} → ℕ → Result X StoreFault → Result X AtItem
at_item i (Ok x) = Ok x
at_item i (Err f) = Err (record { item = i; fault = f })

-- the number that a call is refused with, if it is
abbrev pub refusal_in : {X : Type 0} → Result X Fault → Option ℕ
refusal_in (Ok x) = None
refusal_in (Err f) = Some (number_of f)

-- a refusal of the store is about the item; any other is about none
abbrev pub AboutItem : ℕ → Fault → Type 0
AboutItem i (Store j f) = j ≡ i
AboutItem i Writer = Unit {0}
AboutItem i OrderOpen = Unit {0}
AboutItem i Sequence = Unit {0}
AboutItem i List = Unit {0}
AboutItem i Item = Unit {0}
AboutItem i NoBody = Unit {0}
AboutItem i NoOrder = Unit {0}
AboutItem i Place = Unit {0}
AboutItem i Gathering = Unit {0}
AboutItem i Incomplete = Unit {0}
AboutItem i Sealed = Unit {0}
AboutItem i Reader = Unit {0}
AboutItem i ReadOpen = Unit {0}
AboutItem i NoRead = Unit {0}
AboutItem i Asked = Unit {0}
AboutItem i FirstMissing = Unit {0}
AboutItem i NotDue = Unit {0}
AboutItem i Unfinished = Unit {0}
AboutItem i Kind = Unit {0}

abbrev pub About : {X : Type 0} → ℕ → Result X Fault → Type 0
About i (Ok x) = Unit {0}
About i (Err f) = AboutItem i f

-- a refusal of plain input, with the same number
abbrev pub plain : Refusal → Fault
plain plain_input.Writer = Writer
plain plain_input.Sequence = Sequence
plain plain_input.List = List
plain plain_input.Item = Item
plain plain_input.NoBody = NoBody
