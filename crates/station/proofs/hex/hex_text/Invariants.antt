use Rattle.std.proofs.Common.{◌≡◌, take, string_bytes}
use Rattle.station.specs.Hex.{hex_line}
use Rattle.station.proofs.hex.hex_text.Given as goal

abbrev pub invariant-loop-b : goal.invariant-loop-b
invariant-loop-b l = string_bytes l.text ≡ hex_line (take l.b-index l.bytes)
