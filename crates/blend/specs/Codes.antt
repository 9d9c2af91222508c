-- Bodies as codes. Each definition tests its own ranges.
use Rattle.std.specs.Prelude.{ℕ, ◌+◌, ◌*◌, ◌/◌, ◌%◌, ◌^◌, Bool, cond, not, ◌&&◌, Some, None, Ok, Err, Option, Result, ◌==◌, nat_le, nat_lt}
use Rattle.blend.specs.declared.refusal.Refusal.{Refusal}
use Rattle.blend.specs.declared.refusal.Refusal.TheVariants.{NoBody}
use Rattle.blend.specs.declared.quantity.Quantity.{Quantity}
use Rattle.blend.specs.declared.line_up.LineUp.{LineUp}
use Rattle.blend.specs.declared.card.TankCard.{TankCard}

-- no body is refusal 15
abbrev pub coded : Option ℕ → Result ℕ Refusal
coded None = Err NoBody
coded (Some c) = Ok c

-- 0 to 99,999,999 litres
abbrev pub litres_fit : ℕ → Bool
litres_fit n = nat_le n 99999999

-- tanks are 1 to 255
abbrev pub tank_fits : ℕ → Bool
tank_fits t = not (t == 0) && nat_le t 255

-- 16 bits: a rate, or valves
abbrev pub word_fits : ℕ → Bool
word_fits n = nat_lt n 65536

-- ── quantity: volume × 65,536 + rate ──

abbrev pub quantity_code : Quantity → Option ℕ
quantity_code q = cond (litres_fit q.litres && word_fits q.rate) (Some (q.litres * 65536 + q.rate)) None

abbrev pub quantity_at : ℕ → Option Quantity
quantity_at c = cond (litres_fit (c / 65536)) (Some (record { litres = c / 65536; rate = c % 65536 })) None

-- ── line-up: source × 16,777,216 + destination × 65,536 + valves ──

abbrev pub tanks_fit : ℕ → ℕ → Bool
tanks_fit s d = tank_fits s && (tank_fits d && not (s == d))

abbrev pub line_up_code : LineUp → Option ℕ
line_up_code x =
    cond (tanks_fit x.source x.destination && word_fits x.valves)
    (Some (x.source * 16777216 + x.destination * 65536 + x.valves))
    None

abbrev pub line_up_at : ℕ → Option LineUp
line_up_at c =
    cond (tanks_fit (c / 65536 / 256) (c / 65536 % 256))
    (Some (record { source = c / 65536 / 256; destination = c / 65536 % 256; valves = c % 65536 }))
    None

-- ── tank card: tank × 2^54 + limit ──

abbrev pub card_code : TankCard → Option ℕ
card_code x = cond (tank_fits x.tank && litres_fit x.limit) (Some (x.tank * 2 ^ 54 + x.limit)) None

abbrev pub card_at : ℕ → Option TankCard
card_at c =
    cond (tank_fits (c / 2 ^ 54) && litres_fit (c % 2 ^ 54)) (Some (record { tank = c / 2 ^ 54; limit = c % 2 ^ 54 })) None
