-- The refusal number and the text of each reason.
use Rattle.std.specs.Prelude.{ℕ, List, codes}
use Rattle.blend.specs.declared.refusal.Refusal.{Refusal}
use Rattle.blend.specs.declared.refusal.Refusal.TheVariants as refusal
use Rattle.sheet.specs.declared.fault.LineFault.{LineFault}
use Rattle.sheet.specs.declared.fault.LineFault.TheVariants.{Writer, Sequence, Full, Item, Twice, Fields, Body}

abbrev pub number_of : LineFault → ℕ
number_of Writer = 10
number_of Sequence = 12
number_of Full = 13
number_of Item = 14
number_of Twice = 14
number_of Fields = 15
number_of Body = 15

abbrev pub reason_of : LineFault → List ℕ
reason_of Writer = codes "a sheet begins with: writer 0 to 15 sequence N"
reason_of Sequence = codes "the sequence is a number from 1 to 268435455"
reason_of Full = codes "a sheet has at most eight items"
reason_of Item = codes "a line begins with an item from 1 to 255"
reason_of Twice = codes "the item stands on an earlier line"
reason_of Fields = codes "the fields are not those of the item's kind"
reason_of Body = codes "the values make no body of the item's kind"

-- the fault of a line whose values blend refuses
abbrev pub stamp_fault : Refusal → LineFault
stamp_fault refusal.Writer = Writer
stamp_fault refusal.Sequence = Sequence
stamp_fault refusal.List = Full
stamp_fault refusal.Item = Item
stamp_fault refusal.NoBody = Body
