-- Bytes written as digits read back.
use Rattle.std.proofs.Common.{◌≡◌, ℕ, ◌+◌, ◌*◌, ◌/◌, ◌%◌, ◌<◌, Bool, false, cond, List, [], ◌∷◌, ◌++◌, Some, None, Ok, Option, Result, sym, ap, ◌∙◌, append_assoc, append-nil, arith, rules}
use Rattle.std.specs.Char.{digit_char}
use Rattle.std.specs.Int.Digits.{AllBelowBase}
use Rattle.text.specs.Tokens.{is_blank}
use Rattle.station.specs.declared.fault.HexFault.{HexFault}
use Rattle.station.specs.Hex.{State, hex_value, at_blank, at_digit, hex_step, hex_after, hex_of, byte_hex, hex_line}

digit_read : (d : ℕ) → d < 16 → hex_value (digit_char d) ≡ Some d
digit_read d h = search (arith, rules)

digit_not_blank : (d : ℕ) → d < 16 → is_blank (digit_char d) ≡ false
digit_not_blank d h = search (arith, rules)

digit_step : (xs : List ℕ) (half : Option ℕ) (d : ℕ) → d < 16 → hex_step (xs, half) (digit_char d) ≡ at_digit xs half (Some d)
digit_step xs half d h =
    ap (λ (t : Bool). cond t (at_blank xs half) (at_digit xs half (hex_value (digit_char d)))) (digit_not_blank d h) ∙
    ap (at_digit xs half) (digit_read d h)

byte_back : (b : ℕ) (xs cs : List ℕ) → b < 256 →
    hex_after (Ok (xs, None)) (byte_hex b ++ cs) ≡ hex_after (Ok (xs ++ b ∷ [], None)) cs
byte_back b xs cs h =
    let whole : b / 16 * 16 + b % 16 ≡ b = omega arith in
    ap (λ (x : Result State HexFault). hex_after x (digit_char (b % 16) ∷ cs)) (digit_step xs None (b / 16) (omega arith)) ∙
    ap (λ (x : Result State HexFault). hex_after x cs) (digit_step xs (Some (b / 16)) (b % 16) (omega arith)) ∙
    ap (λ (n : ℕ). hex_after (Ok (xs ++ n ∷ [], None)) cs) whole

-- what is written after the bytes xs reads back
line_back : (bs xs : List ℕ) → AllBelowBase 256 bs → hex_after (Ok (xs, None)) (hex_line bs) ≡ Ok (xs ++ bs)
line_back [] xs u = ap (λ (x : List ℕ). Ok x) (sym (append-nil xs))
line_back (b ∷ bs) xs u =
    byte_back b xs (hex_line bs) u.0 ∙ line_back bs (xs ++ b ∷ []) u.1 ∙ ap (λ (x : List ℕ). Ok x) (append_assoc xs (b ∷ []) bs)

pub reads_back : (bs : List ℕ) → AllBelowBase 256 bs → hex_of (hex_line bs) ≡ Ok bs
reads_back bs u = line_back bs [] u
