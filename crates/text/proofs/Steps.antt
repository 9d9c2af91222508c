-- How a number is read digit by digit, and a line cut into its tokens.
use Rattle.std.proofs.Common.{◌≡◌, ℕ, ◌+◌, ◌<◌, Bool, true, false, not, cond, eqb, List, [], ◌∷◌, ◌++◌, length, get_or, drop, map, filter, Some, Option, sym, refl, ap, ◌∙◌, append_assoc, append-nil, arith, ◌==◌}
use Rattle.std.specs.List.{slice_split, onto_first}
use Rattle.std.proofs.lemmas.List.{at_drop_more}
use Rattle.text.specs.Numbers.{digit_after, digits_after, number_at}
use Rattle.text.specs.declared.token.Token.{Token}
use Rattle.text.specs.Tokens.{is_blank, token_at, token_if, tokens_from, tokens_of}

-- a text that is not empty is read from 0 on
pub some_digits : (xs : List ℕ) → false ≡ eqb (length xs) 0 → digits_after (Some 0) xs ≡ number_at xs
some_digits [] h = cc
some_digits (x ∷ xs) h = refl

-- the digit at i is read
pub digits_more : (n : ℕ) (xs : List ℕ) (i : ℕ) (o : Option ℕ) → i < length xs → o ≡ digit_after n (get_or xs i 0) →
    digits_after (Some n) (drop i xs) ≡ digits_after o (drop (i + 1) xs)
digits_more n xs i o h e =
    at_drop_more (digits_after (Some n)) xs i 0 h ∙ ap (λ (x : Option ℕ). digits_after x (drop (i + 1) xs)) (sym e)

-- the parts with the bytes w before the first of them
abbrev before_first : List ℕ → List (List ℕ) → List (List ℕ)
before_first w [] = w ∷ []
before_first w (p ∷ ps) = (w ++ p) ∷ ps

before_first-onto : (w : List ℕ) (b : ℕ) (ps : List (List ℕ)) → before_first w (onto_first b ps) ≡ before_first (w ++ b ∷ []) ps
before_first-onto w b [] = refl
before_first-onto w b (p ∷ ps) = ap (λ (x : List ℕ). x ∷ ps) (sym (append_assoc w (b ∷ []) p))

-- the tokens of the parts that are not empty
abbrev tokens_in : List (List ℕ) → List Token
tokens_in ps = map token_at (filter (λ w. not (length w == 0)) ps)

tokens_in-cons : (w : List ℕ) (ps : List (List ℕ)) → tokens_in (w ∷ ps) ≡ token_if w ++ tokens_in ps
tokens_in-cons [] ps = refl
tokens_in-cons (b ∷ w) ps =
    let full : (length (b ∷ w) == 0) ≡ false = grind arith in
    ap (λ (x : Bool). map token_at (cond (not x) ((b ∷ w) ∷ filter (λ w. not (length w == 0)) ps) (filter (λ w. not (length w == 0)) ps))) full

tokens_in-nothing : (ps : List (List ℕ)) → tokens_in (before_first [] ps) ≡ tokens_in ps
tokens_in-nothing [] = refl
tokens_in-nothing (p ∷ ps) = refl

one_byte_more : (t : Bool) (w : List ℕ) (b : ℕ) (bs : List ℕ) →
    ((v : List ℕ) → tokens_from v bs ≡ tokens_in (before_first v (slice_split is_blank bs))) →
    cond t (token_if w ++ tokens_from [] bs) (tokens_from (w ++ b ∷ []) bs) ≡
    tokens_in (before_first w (cond t ([] ∷ slice_split is_blank bs) (onto_first b (slice_split is_blank bs))))
one_byte_more true w b bs more =
    let ps : List (List ℕ) = slice_split is_blank bs in
    ap (λ (x : List Token). token_if w ++ x) (more [] ∙ tokens_in-nothing ps) ∙ sym (tokens_in-cons w ps) ∙
    ap (λ (x : List ℕ). tokens_in (x ∷ ps)) (sym (append-nil w))
one_byte_more false w b bs more = more (w ++ b ∷ []) ∙ ap tokens_in (sym (before_first-onto w b (slice_split is_blank bs)))

parts_tokens : (line w : List ℕ) → tokens_from w line ≡ tokens_in (before_first w (slice_split is_blank line))
parts_tokens [] w =
    sym (append-nil (token_if w)) ∙ sym (tokens_in-cons w []) ∙ ap (λ (x : List ℕ). tokens_in (x ∷ [])) (sym (append-nil w))
parts_tokens (b ∷ bs) w = one_byte_more (is_blank b) w b bs (parts_tokens bs)

-- the parts between the blanks, each as a token, but for the empty ones
pub split_tokens : (line : List ℕ) → map token_at (filter (λ w. not (length w == 0)) (slice_split is_blank line)) ≡ tokens_of line
split_tokens line = sym (parts_tokens line [] ∙ tokens_in-nothing (slice_split is_blank line))
