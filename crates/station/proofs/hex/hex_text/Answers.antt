use Rattle.std.proofs.Common.{◌≡◌, ℕ, ◌<◌, List, string_bytes, ap, ◌∙◌, arith}
use Rattle.std.proofs.ByRecursion.{All-from_get_or}
use Rattle.std.proofs.lemmas.List.{take_all}
use Rattle.station.specs.Hex.{hex_line, hex_of}
use Rattle.station.proofs.Writing.{reads_back}
use Rattle.station.proofs.hex.hex_text.Goals as goal

pub returns-clause-back : goal.returns-clause-back
returns-clause-back c =
    let bs : List ℕ = c.args.bytes.now in
    let text : string_bytes c.loop-b.text ≡ hex_line bs = c.loop-b.invariant ∙ ap hex_line (take_all c.loop-b.b-index bs (omega arith)) in
    ap hex_of text ∙ reads_back bs (All-from_get_or (λ (n : ℕ). n < 256) bs 0 (λ i _. (c.type_inv.bytes i).fits))
