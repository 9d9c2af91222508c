-- What a changed row means.
use Rattle.std.proofs.Common.{◌≡◌, ℕ, zero, suc, ◌<◌, ◌≤◌, min, true, false, List, [], ◌∷◌, length, get_or, take, set, Some, None, Option, inl, inr, sym, refl, ap, ◌∙◌, arith}
use mathlib.Core.Path.{fun_ext}
use mathlib.Core.List.{map}
use Rattle.std.specs.Option.{option_map}
use Rattle.std.proofs.lemmas.List.{take-map, map-set, set-get_or, get_or-map, get_or-take, get_or-set_same, get_or-set_other, get_or_past, ext_get_or, length-take, take_all}
use Rattle.std.proofs.lemmas.Bool.{cases_eq, cases_lt}
use Rattle.store.specs.Meaning.{Version, blank, later_version}
use Rattle.protocol.specs.State as protocol
use Rattle.protocol.specs.Naming.{padded}
use Rattle.protocol.specs.Step.{with_order, prepared_at, committed_at, fresh_read, first_asked, second_asked}
use Rattle.protocol.proofs.Basics.{upd_set}
use Rattle.rows.specs.declared.order.OrderPlace.{OrderPlace}
use Rattle.rows.specs.declared.order.OpenOrder.{OpenOrder}
use Rattle.rows.specs.declared.order.OrderRow.{OrderRow}
use Rattle.rows.specs.declared.read.ReadPlace.{ReadPlace}
use Rattle.rows.specs.declared.read.OpenRead.{OpenRead}
use Rattle.rows.specs.Places.{in_eight, filed_place, opened_place}
use Rattle.rows.specs.OrderCalls.{prepared_in, committed_in}
use Rattle.rows.specs.Rows.{no_order_place, no_read_place, order_place, order_in, order_laid, row_of, read_place, read_in}
use Rattle.rows.proofs.Below.{length_listed}

-- ── a list of places ──

module _ {A : Type 0} (l : List A) (p : ℕ) (y d : A) (low : p < length l) where
  -- what a place keeps, as it is read and as it is listed
  pub read_same : {B : Type 0} (f : A → B) → f y ≡ f (get_or l p d) → ◌≡◌ {A = ℕ → B} (λ k. f (get_or (set l p y) k d)) (λ k. f (get_or l k d))
  read_same f e = fun_ext (λ k. elim (cases_eq k p) [
    | inl s ↦ ap (λ j. f (get_or (set l p y) j d)) s ∙ ap f (get_or-set_same l p y d low) ∙ e ∙ ap (λ j. f (get_or l j d)) (sym s)
    | inr s ↦ ap f (get_or-set_other l p k y d s)
  ])

  pub listed_same : (f : A → ℕ) (n : ℕ) → f y ≡ f (get_or l p d) → map f (take n (set l p y)) ≡ map f (take n l)
  listed_same f n e =
      let at : f y ≡ get_or (map f l) p 0 = e ∙ sym (get_or-map f l p d 0 low) in
      sym (take-map f n (set l p y)) ∙ ap (take n) (map-set f l p y ∙ ap (set (map f l) p) at ∙ set-get_or (map f l) p 0) ∙ take-map f n l

module _ {A : Type 0} where
  -- a list of n by index
  abbrev tabled : ℕ → (ℕ → A) → List A
  tabled zero f = []
  tabled (suc n) f = f 0 ∷ tabled n (λ k. f (suc k))

  at_tabled : (n : ℕ) (f : ℕ → A) (d : A) (k : ℕ) → k < n → get_or (tabled n f) k d ≡ f k
  at_tabled zero f d k u = absurd (omega arith)
  at_tabled (suc n) f d zero u = refl
  at_tabled (suc n) f d (suc k) u = at_tabled n (λ j. f (suc j)) d k (omega arith)

padded_tabled : (n : ℕ) (l : List ℕ) → tabled n (λ k. get_or l k 0) ≡ padded n l
padded_tabled zero l = refl
padded_tabled (suc n) [] = ap (λ (z : List ℕ). 0 ∷ z) (padded_tabled n [])
padded_tabled (suc n) (y ∷ l) = ap (λ (z : List ℕ). y ∷ z) (padded_tabled n l)

length_padded : (n : ℕ) (l : List ℕ) → length (padded n l) ≡ n
length_padded zero l = refl
length_padded (suc n) [] = ap suc (length_padded n [])
length_padded (suc n) (y ∷ l) = ap suc (length_padded n l)

at_padded : (n : ℕ) (l : List ℕ) (k : ℕ) → k < n → get_or (padded n l) k 0 ≡ get_or l k 0
at_padded zero l k u = absurd (omega arith)
at_padded (suc n) [] zero u = refl
at_padded (suc n) [] (suc k) u = at_padded n [] k (omega arith)
at_padded (suc n) (y ∷ l) zero u = refl
at_padded (suc n) (y ∷ l) (suc k) u = at_padded n l k (omega arith)

padded_whole : (l : List ℕ) → padded (length l) l ≡ l
padded_whole [] = refl
padded_whole (y ∷ l) = ap (λ (z : List ℕ). y ∷ z) (padded_whole l)

pub padded_eight : (l : List ℕ) → in_eight (λ k. get_or l k 0) ≡ padded 8 l
padded_eight l = padded_tabled 8 l

-- places that were laid out from a list
pub listed_laid : {A : Type 0} (f : A → ℕ) (d : A) (l : List A) (xs : List ℕ) (n : ℕ) → n ≡ length xs → n ≤ 8 → length l ≡ 8 →
    ((k : ℕ) → k < n → f (get_or l k d) ≡ get_or xs k 0) → map f (take n l) ≡ xs
listed_laid f d l xs n e few long at =
    let m = length_listed f n l few long in
    let t = length-take n l in
    ext_get_or 0 (map f (take n l)) xs (m ∙ e) (λ k u.
    let v : k < n = omega (arith, m) in
    get_or-map f (take n l) k d 0 (omega (arith, v, t, few, long)) ∙ ap f (get_or-take n l k d v) ∙ at k v)

pub read_all : {A B : Type 0} (l : List A) (d : A) (f : A → B) (b : B) → length l ≡ 8 → f d ≡ b → ((k : ℕ) → k < 8 → f (get_or l k d) ≡ b) →
    ◌≡◌ {A = ℕ → B} (λ k. f (get_or l k d)) (λ k. b)
read_all l d f b long e at =
    fun_ext (λ k. elim (cases_lt k 8) [ inl u ↦ at k u | inr u ↦ ap f (get_or_past l k d (omega (arith, u, long))) ∙ e ])

-- ── orders ──

-- a row of which only the open order has changed
pub order_changed : (w : ℕ) (row : OrderRow) (x y : OpenOrder) (f : protocol.OpenOrder → protocol.OpenOrder) →
    row.current ≡ Some x → order_in w y ≡ f (order_in w x) →
    row_of w (record { sequence = row.sequence; current = Some y }) ≡ with_order (row_of w row) (option_map f (row_of w row).current)
order_changed w row x y f is e =
    ap (λ (z : protocol.OpenOrder). record { sequence = row.sequence; current = Some z }) e ∙
    sym (ap (λ (o : Option OpenOrder). record { sequence = row.sequence; current = option_map f (option_map (order_in w) o) }) is)

module _ (w : ℕ) (row : OrderRow) (x : OpenOrder) (p : ℕ) (low : p < length x.places) where
  abbrev old : OrderPlace
  old = order_place x p

  order_prepared : (few : x.count ≤ 8) → let y : OrderPlace = record { item = old.item; code = old.code; prepared = true; committed = old.committed } in
      order_in w (record { places = set x.places p y; count = x.count; stamp = x.stamp; few = few }) ≡ prepared_at (order_in w x) p
  order_prepared few =
      let y : OrderPlace = record { item = old.item; code = old.code; prepared = true; committed = old.committed } in
      λ i. record {
        order = record {
          writer = w;
          items = listed_same x.places p y no_order_place low (λ z. z.item) x.count refl i;
          codes = listed_same x.places p y no_order_place low (λ z. z.code) x.count refl i;
          stamp = x.stamp;
        };
        prepared = upd_set (λ z. z.prepared) x.places p y no_order_place low i;
        committed = read_same x.places p y no_order_place low (λ z. z.committed) refl i;
      }

  order_committed : (few : x.count ≤ 8) → let y : OrderPlace = record { item = old.item; code = old.code; prepared = old.prepared; committed = true } in
      order_in w (record { places = set x.places p y; count = x.count; stamp = x.stamp; few = few }) ≡ committed_at (order_in w x) p
  order_committed few =
      let y : OrderPlace = record { item = old.item; code = old.code; prepared = old.prepared; committed = true } in
      λ i. record {
        order = record {
          writer = w;
          items = listed_same x.places p y no_order_place low (λ z. z.item) x.count refl i;
          codes = listed_same x.places p y no_order_place low (λ z. z.code) x.count refl i;
          stamp = x.stamp;
        };
        prepared = read_same x.places p y no_order_place low (λ z. z.prepared) refl i;
        committed = upd_set (λ z. z.committed) x.places p y no_order_place low i;
      }

  pub row_prepared : (few : x.count ≤ 8) → row.current ≡ Some x → let y : OrderPlace = record { item = old.item; code = old.code; prepared = true; committed = old.committed } in
      row_of w (record { sequence = row.sequence; current = Some (record { places = set x.places p y; count = x.count; stamp = x.stamp; few = few }) }) ≡
      with_order (row_of w row) (prepared_in (row_of w row).current p)
  row_prepared few is =
      let y : OrderPlace = record { item = old.item; code = old.code; prepared = true; committed = old.committed } in
      order_changed w row x (record { places = set x.places p y; count = x.count; stamp = x.stamp; few = few }) (λ z. prepared_at z p) is (order_prepared few)

  pub row_committed : (few : x.count ≤ 8) → row.current ≡ Some x → let y : OrderPlace = record { item = old.item; code = old.code; prepared = old.prepared; committed = true } in
      row_of w (record { sequence = row.sequence; current = Some (record { places = set x.places p y; count = x.count; stamp = x.stamp; few = few }) }) ≡
      with_order (row_of w row) (committed_in (row_of w row).current p)
  row_committed few is =
      let y : OrderPlace = record { item = old.item; code = old.code; prepared = old.prepared; committed = true } in
      order_changed w row x (record { places = set x.places p y; count = x.count; stamp = x.stamp; few = few }) (λ z. committed_at z p) is (order_committed few)

-- a new order
pub laid_order : (w t n : ℕ) (l : List OrderPlace) (items codes : List ℕ) (low : n ≤ 8) → n ≡ min (length items) 8 →
    l ≡ in_eight (filed_place items codes) → order_in w (record { places = l; count = n; stamp = t; few = low }) ≡ order_laid w t items codes
laid_order w t n l items codes low m e =
    let long : length l ≡ 8 = ap length e in
    let size = length-take 8 items in
    let s : n ≡ length (take 8 items) = omega (arith, m, size) in
    let at : (k : ℕ) → k < n → get_or l k no_order_place ≡ filed_place items codes k =
    λ k u. ap (λ (z : List OrderPlace). get_or z k no_order_place) e ∙ at_tabled 8 (filed_place items codes) no_order_place k (omega (arith, u, low))
    in
    let all : (k : ℕ) → k < 8 → get_or l k no_order_place ≡ filed_place items codes k =
    λ k u. ap (λ (z : List OrderPlace). get_or z k no_order_place) e ∙ at_tabled 8 (filed_place items codes) no_order_place k u
    in
    λ i. record {
      order = record {
        writer = w;
        items = listed_laid (λ z. z.item) no_order_place l (take 8 items) n s low long
            (λ k u. ap (λ (z : OrderPlace). z.item) (at k u) ∙ sym (get_or-take 8 items k 0 (omega (arith, u, low)))) i;
        codes = listed_laid (λ z. z.code) no_order_place l (padded (length (take 8 items)) codes) n (s ∙ sym (length_padded (length (take 8 items)) codes)) low long
            (λ k u. ap (λ (z : OrderPlace). z.code) (at k u) ∙ sym (at_padded (length (take 8 items)) codes k (omega (arith, u, s)))) i;
        stamp = t;
      };
      prepared = read_all l no_order_place (λ z. z.prepared) false long refl (λ k u. ap (λ (z : OrderPlace). z.prepared) (all k u)) i;
      committed = read_all l no_order_place (λ z. z.committed) false long refl (λ k u. ap (λ (z : OrderPlace). z.committed) (all k u)) i;
    }

-- of at most eight items, each with a code, the order is of these lists
pub laid_whole : (w t : ℕ) (items codes : List ℕ) → length items ≤ 8 → length codes ≡ length items →
    order_laid w t items codes ≡ record {
      order = record { writer = w; items = items; codes = codes; stamp = t };
      prepared = λ k. false;
      committed = λ k. false;
    }
laid_whole w t items codes few same =
    let whole : take 8 items ≡ items = take_all 8 items few in
    let coded : padded (length (take 8 items)) codes ≡ codes = ap (λ (z : List ℕ). padded (length z) codes) whole ∙ ap (λ (n : ℕ). padded n codes) (sym same) ∙ padded_whole codes in
    λ i. record {
      order = record { writer = w; items = whole i; codes = coded i; stamp = t };
      prepared = λ k. false;
      committed = λ k. false;
    }

-- ── reads ──

module _ (x : OpenRead) (p : ℕ) (low : p < length x.places) (v : Version) (few : x.count ≤ 8) where
  abbrev was : ReadPlace
  was = read_place x p

  -- the first ask of a place is answered
  pub first_set : let y : ReadPlace = record { item = was.item; first = Some v; again = was.again; kept = v } in
      read_in (record { places = set x.places p y; count = x.count; few = few }) ≡ first_asked (read_in x) p v
  first_set =
      let y : ReadPlace = record { item = was.item; first = Some v; again = was.again; kept = v } in
      λ i. record {
        items = listed_same x.places p y no_read_place low (λ z. z.item) x.count refl i;
        first = upd_set (λ z. z.first) x.places p y no_read_place low i;
        again = read_same x.places p y no_read_place low (λ z. z.again) refl i;
        kept = upd_set (λ z. z.kept) x.places p y no_read_place low i;
      }

  -- the second ask of a place is answered, and u is kept there
  pub second_set : (u : Version) → u ≡ later_version was.kept v → let y : ReadPlace = record { item = was.item; first = was.first; again = true; kept = u } in
      read_in (record { places = set x.places p y; count = x.count; few = few }) ≡ second_asked (read_in x) p v
  second_set u e =
      let y : ReadPlace = record { item = was.item; first = was.first; again = true; kept = u } in
      let keeps : (λ k. (get_or (set x.places p y) k no_read_place).kept) ≡ protocol.upd (read_in x).kept p (later_version was.kept v) =
      upd_set (λ z. z.kept) x.places p y no_read_place low ∙ ap (protocol.upd (read_in x).kept p) e
      in
      λ i. record {
        items = listed_same x.places p y no_read_place low (λ z. z.item) x.count refl i;
        first = read_same x.places p y no_read_place low (λ z. z.first) refl i;
        again = upd_set (λ z. z.again) x.places p y no_read_place low i;
        kept = keeps i;
      }

-- a new read
pub read_opened : (n : ℕ) (l : List ReadPlace) (items : List ℕ) (low : n ≤ 8) → n ≡ min (length items) 8 →
    l ≡ in_eight (opened_place items) → read_in (record { places = l; count = n; few = low }) ≡ fresh_read (take 8 items)
read_opened n l items low m e =
    let long : length l ≡ 8 = ap length e in
    let size = length-take 8 items in
    let at : (k : ℕ) → k < 8 → get_or l k no_read_place ≡ opened_place items k =
    λ k u. ap (λ (z : List ReadPlace). get_or z k no_read_place) e ∙ at_tabled 8 (opened_place items) no_read_place k u
    in
    λ i. record {
      items = listed_laid (λ z. z.item) no_read_place l (take 8 items) n (omega (arith, m, size)) low long
          (λ k u. let v : k < 8 = omega (arith, u, low) in ap (λ (z : ReadPlace). z.item) (at k v) ∙ sym (get_or-take 8 items k 0 v)) i;
      first = read_all l no_read_place (λ z. z.first) None long refl (λ k u. ap (λ (z : ReadPlace). z.first) (at k u)) i;
      again = read_all l no_read_place (λ z. z.again) false long refl (λ k u. ap (λ (z : ReadPlace). z.again) (at k u)) i;
      kept = read_all l no_read_place (λ z. z.kept) blank long refl (λ k u. ap (λ (z : ReadPlace). z.kept) (at k u)) i;
    }
