-- When a call is refused: its tests in their order, each with its number. The first that fires refuses; where none does, the call is
-- accepted.
use Rattle.std.specs.Prelude.{ℕ, Bool, false, not, ◌&&◌, ◌||◌, List, [], ◌∷◌, length, is_some, Option, ◌==◌, nat_le, nat_lt, slice_index}
use Rattle.blend.specs.Refusals.{Tests, first_of}
use Rattle.blend.specs.Fitting.{fits}
use Rattle.blend.specs.Lists.{has}
use Rattle.store.specs.Tests.{put_tests, commit_tests, question_tests}
use Rattle.protocol.specs.Naming.{Naming, mark_for}
use Rattle.protocol.specs.Calls.{file, prepare, commit, close, withdraw, open_read, first_ask, second_ask, take, release, Call, by_writer, by_reader}
use Rattle.protocol.specs.State.{OpenOrder, OpenRead, State, order_of, read_of}
use Rattle.protocol.specs.Asks.{progress, all_below, all_made, due_second, finished}

-- ── lists of items ──

-- empty, or longer than eight
abbrev pub bad_size : List ℕ → Bool
bad_size items = length items == 0 || nat_lt 8 (length items)

-- an item 0, or an item twice
abbrev pub bad_items : List ℕ → Bool
bad_items [] = false
bad_items (x ∷ xs) = x == 0 || (has x xs || bad_items xs)

-- a code of no body of its item's kind
abbrev pub unfit : List ℕ → List ℕ → Bool
unfit [] cs = false
unfit (i ∷ is) [] = false
unfit (i ∷ is) (c ∷ cs) = not (fits i c) || unfit is cs

-- ── orders ──

abbrev pub item_at : OpenOrder → ℕ → ℕ
item_at x k = slice_index x.order.items k

abbrev pub code_at : OpenOrder → ℕ → ℕ
code_at x k = slice_index x.order.codes k

abbrev pub no_order : State → ℕ → Bool
no_order s w = not (is_some (s.writers w).current)

abbrev pub all_prepared : OpenOrder → Bool
all_prepared x = all_below (length x.order.items) x.prepared

abbrev pub all_committed : OpenOrder → Bool
all_committed x = all_below (length x.order.items) x.committed

-- an order is gathering until every place is prepared, then sealed, and complete once every place is committed
abbrev pub gathering : OpenOrder → Bool
gathering x = not (all_prepared x)

abbrev pub complete : OpenOrder → Bool
complete x = all_prepared x && all_committed x

-- ── reads ──

abbrev pub read_item : OpenRead → ℕ → ℕ
read_item x p = slice_index x.items p

abbrev pub no_read : State → ℕ → Bool
no_read s r = not (is_some (s.readers r))

-- ── the tests of each call ──

-- a place beyond the list
abbrev pub beyond : List ℕ → ℕ → Bool
beyond items place = nat_le (length items) place

abbrev pub tests : Naming → State → Call → Tests
tests ν s (by_writer w (file q items codes)) =
    (10, nat_lt 15 w) ∷ (11, is_some (s.writers w).current) ∷ (12, (q == 0) || (nat_lt 268435455 q || nat_le q (s.writers w).sequence)) ∷
    (13, bad_size items || not (length codes == length items)) ∷ (14, bad_items items) ∷ (15, unfit items codes) ∷ []
tests ν s (by_writer w (prepare k)) =
    let x = order_of s w in
    (10, nat_lt 15 w) ∷ (16, no_order s w) ∷ (17, beyond x.order.items k) ∷
    put_tests s.store (item_at x k) x.order.stamp (code_at x k) (mark_for ν x.order.items)
tests ν s (by_writer w (commit k)) =
    let x = order_of s w in
    (10, nat_lt 15 w) ∷ (16, no_order s w) ∷ (17, beyond x.order.items k) ∷ (18, gathering x) ∷
    commit_tests s.store (item_at x k) x.order.stamp
tests ν s (by_writer w close) = (10, nat_lt 15 w) ∷ (16, no_order s w) ∷ (19, not (complete (order_of s w))) ∷ []
tests ν s (by_writer w withdraw) = (10, nat_lt 15 w) ∷ (16, no_order s w) ∷ (20, all_prepared (order_of s w)) ∷ []
tests ν s (by_reader r (open_read items)) =
    (21, nat_lt 15 r) ∷ (22, is_some (s.readers r)) ∷ (13, bad_size items) ∷ (14, bad_items items) ∷ []
tests ν s (by_reader r (first_ask p)) =
    let x = read_of s r in
    (21, nat_lt 15 r) ∷ (23, no_read s r) ∷ (17, beyond x.items p) ∷ (24, is_some (x.first p)) ∷ question_tests (read_item x p)
tests ν s (by_reader r (second_ask p)) =
    let x = read_of s r in
    (21, nat_lt 15 r) ∷ (23, no_read s r) ∷ (17, beyond x.items p) ∷ (25, not (all_made (progress x))) ∷
    (26, not (due_second ν (progress x) p)) ∷ question_tests (read_item x p)
tests ν s (by_reader r (take p)) =
    let x = read_of s r in
    (21, nat_lt 15 r) ∷ (23, no_read s r) ∷ (17, beyond x.items p) ∷ (27, not (finished ν (progress x))) ∷ []
tests ν s (by_reader r release) = (21, nat_lt 15 r) ∷ (23, no_read s r) ∷ []

-- the number that the call is refused with, if it is
abbrev pub refusal : Naming → State → Call → Option ℕ
refusal ν s c = first_of (tests ν s c)
