-- The number of each refusal of a frame, and the reason of each number.
use Rattle.std.specs.Prelude.{ℕ, cond, List, codes, ◌==◌}
use Rattle.frames.specs.declared.fault.FrameFault.{FrameFault}
use Rattle.frames.specs.declared.fault.FrameFault.TheVariants.{Kind, Length, Buffer, Unlisted}

abbrev pub fault_number : FrameFault → ℕ
fault_number Kind = 6
fault_number Length = 7
fault_number Buffer = 8
fault_number Unlisted = 9

-- why a store or a frame is refused, by the number of the refusal
abbrev pub reason_of : ℕ → List ℕ
reason_of n =
    cond (n == 1) (codes "no item has number 0")
    (cond (n == 2) (codes "no version has stamp 0")
    (cond (n == 3) (codes "another version is held with the stamp")
    (cond (n == 4) (codes "there is no space for another version")
    (cond (n == 5) (codes "no version is held with the stamp")
    (cond (n == 6) (codes "the frame is of no known kind")
    (cond (n == 7) (codes "the frame has not the length of its kind")
    (cond (n == 8) (codes "the buffer is too short")
    (cond (n == 9) (codes "the reply is none of those listed") (codes "no refusal has the number")))))))))
