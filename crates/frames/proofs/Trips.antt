-- Frames and messages, there and back: once for every sort of message, then requests and replies.
use Rattle.std.proofs.Common.{◌≡◌, ℕ, List, [], ◌∷◌, Some, None, Ok, Option, sym, refl, ap, ◌∙◌, arith, rules}
use Rattle.std.specs.Int.Digits.{AllBelowBase}
use Rattle.std.proofs.lemmas.List.{append-nil}
use Rattle.layout.specs.Layout.{laid, parsed}
use Rattle.layout.proofs.Layouts as layouts
use Rattle.frames.specs.declared.reply.Reply.{Reply}
use Rattle.frames.specs.declared.reply.Reply.TheVariants.{Done, Version, Refused}
use Rattle.frames.specs.Family.{Form, Fits, FitBy, Again, Only, frame_of, laid_by, message_by, body_fields}
use Rattle.frames.specs.Requests.{Asked, put, commit, last, pick, requests, request_fields}
use Rattle.frames.specs.Replies.{replies, reply_fields, reply_with, reply_fault}

-- ── any sort of message ──

fields_again : (o : Option (List ℕ)) (k : ℕ) (vs : List ℕ) → FitBy o vs → body_fields k (laid_by o vs) o ≡ Ok (k, vs)
fields_again None k vs fit = absurd fit
fields_again (Some ws) k vs fit =
    let l = layouts.long ws vs (layouts.as_many ws vs fit) in
    let r = ap (parsed ws) (sym (append-nil (laid ws vs))) ∙ layouts.again ws vs [] fit in
    grind (arith, rules)

pub again_from : {X : Type 0} (m : Form X) → ((x : X) → Fits m x → m.fault x ≡ None → m.message (m.fields x) ≡ Ok x) → Again m
again_from m back x fit ok =
    ap (message_by m.message) (fields_again (m.widths (m.fields x).0) (m.fields x).0 (m.fields x).1 fit) ∙ back x fit ok

-- the fields of a message made of a body's fields are those fields
abbrev pub Forth : {X : Type 0} → Form X → Type 0
Forth {X} m = (k : ℕ) (b ws : List ℕ) (x : X) → m.widths k ≡ Some ws → m.message (k, parsed ws b) ≡ Ok x → m.fields x ≡ (k, parsed ws b)

only_by : {X : Type 0} (m : Form X) → Forth m → (k : ℕ) (b : List ℕ) (x : X) (o : Option (List ℕ)) → m.widths k ≡ o → AllBelowBase 256 b → message_by m.message (body_fields k b o) ≡ Ok x → k ∷ b ≡ frame_of m x
only_by m forth k b x None e u h = cc
only_by m forth k b x (Some ws) e u h = let f = forth k b ws x e in let o = layouts.only ws b u in grind (arith, rules)

pub only_from : {X : Type 0} (m : Form X) → Forth m → Only m
only_from m forth [] x u h = cc
only_from m forth (k ∷ b) x u h = only_by m forth k b x (m.widths k) refl u.1 h

-- ── requests ──

request_back : (x : Asked) → requests.message (request_fields x) ≡ Ok x
request_back (put i s c m) = refl
request_back (commit i s) = refl
request_back (last i) = refl
request_back (pick i ss) = refl

pub requests_again : Again requests
requests_again = again_from requests (λ x fit ok. request_back x)

request_forth : Forth requests
request_forth k b ws x e h = grind (arith, rules)

pub requests_only : Only requests
requests_only = only_from requests request_forth

-- ── replies ──

reply_back : (x : Reply) → reply_fault x ≡ None → reply_with (reply_fields x) ≡ Ok x
reply_back (Done b) h = grind (arith, rules)
reply_back (Version v) h = refl
reply_back (Refused n) h = grind (arith, rules)

pub replies_again : Again replies
replies_again = again_from replies (λ x fit ok. reply_back x ok)

reply_forth : Forth replies
reply_forth k b ws x e h = grind (arith, rules)

pub replies_only : Only replies
replies_only = only_from replies reply_forth
