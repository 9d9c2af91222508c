-- What the service holds: the store's meaning, sixteen order rows, sixteen read rows.
use Rattle.std.specs.Prelude.{◌≡◌, ℕ, Bool, false, cond, List, [], Some, None, Option, ◌==◌}
use Rattle.store.specs.Meaning.{View, Version, blank}

-- a function with one place changed
abbrev pub upd : {A : Type 0} → (ℕ → A) → ℕ → A → ℕ → A
upd f n x m = cond (m == n) x (f m)

pub record Order : Type 0 where
  pub writer : ℕ
  pub items : List ℕ
  pub codes : List ℕ
  pub stamp : ℕ

-- an order with the places that are prepared and those that are committed
pub record OpenOrder : Type 0 where
  pub order : Order
  pub prepared : ℕ → Bool
  pub committed : ℕ → Bool

-- a writer's last sequence, 0 at first, and its open order
pub record OrderRow : Type 0 where
  pub sequence : ℕ
  pub current : Option OpenOrder

-- an open read, by place: the version that the first ask answered, whether the second ask was made, the version kept
pub record OpenRead : Type 0 where
  pub items : List ℕ
  pub first : ℕ → Option Version
  pub again : ℕ → Bool
  pub kept : ℕ → Version

pub record State : Type 0 where
  pub store : View
  pub writers : ℕ → OrderRow
  pub readers : ℕ → Option OpenRead

-- no version held, whatever the spaces; no sequence used; nothing open
pub record Untouched (s : State) : Type 0 where
  pub nothing_held : (i t : ℕ) → s.store.held i t ≡ None
  pub no_sequence : (w : ℕ) → (s.writers w).sequence ≡ 0
  pub no_order : (w : ℕ) → (s.writers w).current ≡ None
  pub no_read : (r : ℕ) → s.readers r ≡ None

-- ── what is open, with an empty one where nothing is ──

abbrev pub the_order : Option OpenOrder → OpenOrder
the_order None =
    record { order = record { writer = 0; items = []; codes = []; stamp = 0 }; prepared = λ k. false; committed = λ k. false }
the_order (Some x) = x

abbrev pub order_of : State → ℕ → OpenOrder
order_of s w = the_order (s.writers w).current

abbrev pub the_read : Option OpenRead → OpenRead
the_read None = record { items = []; first = λ p. None; again = λ p. false; kept = λ p. blank }
the_read (Some x) = x

abbrev pub read_of : State → ℕ → OpenRead
read_of s r = the_read (s.readers r)
