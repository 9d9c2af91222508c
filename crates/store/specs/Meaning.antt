-- What a store means.
use Rattle.std.specs.Prelude.{◌≡◌, ℕ, ◌<◌, true, cond, ◌||◌, List, [], ◌∷◌, is_some, Some, None, Option, ◌==◌}
use Rattle.blend.specs.Stamps.{later, later_of}

-- code and mark of a held version
abbrev pub Content : Type 0
Content = ℕ × ℕ

-- stamp, code and mark, as a question answers them
abbrev pub Version : Type 0
Version = ℕ × ℕ × ℕ

abbrev pub blank : Version
blank = (0, 0, 0)

-- the version with the later stamp
abbrev pub later_version : Version → Version → Version
later_version x y = cond (later y.0 x.0) y x

-- by item: what is held under a stamp, the last stamp (0: nothing committed), and how many versions it would still take
pub record View : Type 0 where
  pub held : ℕ → ℕ → Option Content
  pub last : ℕ → ℕ
  pub space : ℕ → ℕ

-- a last stamp is 0 or held
abbrev pub LastHeld : View → Type 0
LastHeld v = (i : ℕ) → 0 < v.last i → is_some (v.held i (v.last i)) ≡ true

-- the version with a stamp, or the blank where it is not held
abbrev pub version_with : ℕ → Option Content → Version
version_with s None = blank
version_with s (Some x) = (s, x.0, x.1)

-- what is held of an item under a stamp, where neither is 0
abbrev pub content_at : View → ℕ → ℕ → Option Content
content_at v i s = cond (i == 0 || s == 0) None (v.held i s)

-- the version of the last stamp; the blank for stamp 0
abbrev pub last_version : View → ℕ → Version
last_version v i = cond (v.last i == 0) blank (version_with (v.last i) (v.held i (v.last i)))

abbrev pub later_with : ℕ → Option ℕ → ℕ
later_with s None = s
later_with s (Some t) = later_of s t

-- the latest of the stamps that are held, if any is
abbrev pub latest_held : (ℕ → Option Content) → List ℕ → Option ℕ
latest_held h [] = None
latest_held h (s ∷ ss) = cond (is_some (h s)) (Some (later_with s (latest_held h ss))) (latest_held h ss)

abbrev pub version_of : (ℕ → Option Content) → Option ℕ → Version
version_of h None = blank
version_of h (Some s) = version_with s (h s)

-- the held version with the latest of the stamps; the blank where none is held
abbrev pub picked : (ℕ → Option Content) → List ℕ → Version
picked h ss = version_of h (latest_held h ss)
