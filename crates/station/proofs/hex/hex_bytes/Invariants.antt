use Rattle.std.proofs.Common.{◌≡◌, drop, Ok, vec_items}
use Rattle.station.specs.Hex.{Small, hex_after, hex_of}
use Rattle.station.proofs.hex.hex_bytes.Given as goal

abbrev pub invariant-loop-c : goal.invariant-loop-c
invariant-loop-c l = (hex_after (Ok (vec_items l.bytes, l.half)) (drop l.c-index l.line) ≡ hex_of l.line) × Small l.half
