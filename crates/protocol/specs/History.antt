-- What a history of calls and answers says, by itself, of orders and reads.
use Rattle.std.specs.Prelude.{◌≡◌, ℕ, suc, ◌<◌, Bool, true, false, ◌⊎◌, List, [], ◌∷◌, length, is_some, Some, None, Option, slice_index}
use Rattle.std.specs.Option.{option_map}
use Rattle.protocol.specs.Naming.{Naming, mark_for}
use Rattle.protocol.specs.Calls.{file, prepare, commit, close, withdraw, open_read, first_ask, second_ask, take, release, Call, by_writer, by_reader, Answer, refused, accepted}
use Rattle.protocol.specs.State.{upd, Order}
use Rattle.protocol.specs.Asks.{Progress}

-- a call with its answer
pub data Event : Type 0 where
  called : Call → Answer → Event

-- the newest first
abbrev pub History : Type 0
History = List Event

-- ── orders ──

abbrev pub filed : ℕ → List ℕ → List ℕ → ℕ → Order
filed w items codes t = record { writer = w; items = items; codes = codes; stamp = t }

-- the orders: the accepted filings
abbrev pub OrderedAfter : Event → Order → Type 0 → Type 0
OrderedAfter (called c (refused n)) o before = before
OrderedAfter (called (by_reader r x) (accepted a b)) o before = before
OrderedAfter (called (by_writer w (file q items codes)) (accepted a b)) o before = (o ≡ filed w items codes a) ⊎ before
OrderedAfter (called (by_writer w (prepare k)) (accepted a b)) o before = before
OrderedAfter (called (by_writer w (commit k)) (accepted a b)) o before = before
OrderedAfter (called (by_writer w close) (accepted a b)) o before = before
OrderedAfter (called (by_writer w withdraw) (accepted a b)) o before = before

abbrev pub Ordered : History → Order → Type 0
Ordered [] o = ⊥
Ordered (e ∷ h) o = OrderedAfter e o (Ordered h o)

-- the order that a writer has open: from its filing to the writer's next accepted close or withdrawal
abbrev pub order_after : Event → (ℕ → Option Order) → ℕ → Option Order
order_after (called c (refused n)) u = u
order_after (called (by_reader r x) (accepted a b)) u = u
order_after (called (by_writer w (file q items codes)) (accepted a b)) u = upd u w (Some (filed w items codes a))
order_after (called (by_writer w (prepare k)) (accepted a b)) u = u
order_after (called (by_writer w (commit k)) (accepted a b)) u = u
order_after (called (by_writer w close) (accepted a b)) u = upd u w None
order_after (called (by_writer w withdraw) (accepted a b)) u = upd u w None

abbrev pub current_order : History → ℕ → Option Order
current_order [] w = None
current_order (e ∷ h) w = order_after e (current_order h) w

-- the order was prepared at the place: a prepare of it was accepted while the order was open
abbrev pub PreparedAfter : Event → (ℕ → Option Order) → Order → ℕ → Type 0 → Type 0
PreparedAfter (called c (refused n)) u o k before = before
PreparedAfter (called (by_reader r x) (accepted a b)) u o k before = before
PreparedAfter (called (by_writer w (file q items codes)) (accepted a b)) u o k before = before
PreparedAfter (called (by_writer w (prepare j)) (accepted a b)) u o k before = ((u w ≡ Some o) × (k ≡ j)) ⊎ before
PreparedAfter (called (by_writer w (commit j)) (accepted a b)) u o k before = before
PreparedAfter (called (by_writer w close) (accepted a b)) u o k before = before
PreparedAfter (called (by_writer w withdraw) (accepted a b)) u o k before = before

abbrev pub Prepared : History → Order → ℕ → Type 0
Prepared [] o k = ⊥
Prepared (e ∷ h) o k = PreparedAfter e (current_order h) o k (Prepared h o k)

-- the order was withdrawn: a withdrawal was accepted while it was open
abbrev pub WithdrawnAfter : Event → (ℕ → Option Order) → Order → Type 0 → Type 0
WithdrawnAfter (called c (refused n)) u o before = before
WithdrawnAfter (called (by_reader r x) (accepted a b)) u o before = before
WithdrawnAfter (called (by_writer w (file q items codes)) (accepted a b)) u o before = before
WithdrawnAfter (called (by_writer w (prepare j)) (accepted a b)) u o before = before
WithdrawnAfter (called (by_writer w (commit j)) (accepted a b)) u o before = before
WithdrawnAfter (called (by_writer w close) (accepted a b)) u o before = before
WithdrawnAfter (called (by_writer w withdraw) (accepted a b)) u o before = (u w ≡ Some o) ⊎ before

abbrev pub Withdrawn : History → Order → Type 0
Withdrawn [] o = ⊥
Withdrawn (e ∷ h) o = WithdrawnAfter e (current_order h) o (Withdrawn h o)

abbrev pub Lists : Order → ℕ → Type 0
Lists o i = (k : ℕ) × (k < length o.items) × (slice_index o.items k ≡ i)

abbrev pub ListsWith : Order → ℕ → ℕ → Type 0
ListsWith o i c = (k : ℕ) × (k < length o.items) × (slice_index o.items k ≡ i) × (slice_index o.codes k ≡ c)

-- the mark of a stamp: of the items of the order with that stamp; 0 of a stamp that no order has
abbrev pub mark_after : Naming → Event → (ℕ → ℕ) → ℕ → ℕ
mark_after ν (called c (refused n)) m t = m t
mark_after ν (called (by_reader r x) (accepted a b)) m t = m t
mark_after ν (called (by_writer w (file q items codes)) (accepted a b)) m t = upd m a (mark_for ν items) t
mark_after ν (called (by_writer w (prepare j)) (accepted a b)) m t = m t
mark_after ν (called (by_writer w (commit j)) (accepted a b)) m t = m t
mark_after ν (called (by_writer w close) (accepted a b)) m t = m t
mark_after ν (called (by_writer w withdraw) (accepted a b)) m t = m t

abbrev pub mark_of : Naming → History → ℕ → ℕ
mark_of ν [] t = 0
mark_of ν (e ∷ h) t = mark_after ν e (mark_of ν h) t

-- ── reads ──

-- a read: its items; by place the stamp that the first ask answered and whether the second ask was made; how many asks were accepted
pub record Read : Type 0 where
  pub items : List ℕ
  pub first : ℕ → Option ℕ
  pub again : ℕ → Bool
  pub asks : ℕ

abbrev pub opened : List ℕ → Read
opened items = record { items = items; first = λ p. None; again = λ p. false; asks = 0 }

abbrev pub with_first : ℕ → ℕ → Read → Read
with_first p t x = record { items = x.items; first = upd x.first p (Some t); again = x.again; asks = suc x.asks }

abbrev pub with_second : ℕ → Read → Read
with_second p x = record { items = x.items; first = x.first; again = upd x.again p true; asks = suc x.asks }

-- the read that a reader has open: from its opening to the reader's next accepted release
abbrev pub read_after : Event → (ℕ → Option Read) → ℕ → Option Read
read_after (called c (refused n)) u = u
read_after (called (by_writer w x) (accepted a b)) u = u
read_after (called (by_reader r (open_read items)) (accepted a b)) u = upd u r (Some (opened items))
read_after (called (by_reader r (first_ask p)) (accepted a b)) u = upd u r (option_map (with_first p a) (u r))
read_after (called (by_reader r (second_ask p)) (accepted a b)) u = upd u r (option_map (with_second p) (u r))
read_after (called (by_reader r (take p)) (accepted a b)) u = u
read_after (called (by_reader r release) (accepted a b)) u = upd u r None

abbrev pub current_read : History → ℕ → Option Read
current_read [] r = None
current_read (e ∷ h) r = read_after e (current_read h) r

abbrev pub or_zero : Option ℕ → ℕ
or_zero None = 0
or_zero (Some n) = n

-- what decides the asks of the read
abbrev pub progress_in : Naming → History → Read → Progress
progress_in ν h x = record {
  items = x.items;
  made = λ p. is_some (x.first p);
  stamp = λ p. or_zero (x.first p);
  mark = λ p. mark_of ν h (or_zero (x.first p));
  again = x.again;
}
