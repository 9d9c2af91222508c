-- What holds after every beginning of a run, of the orders with the store and of the reads.
use Rattle.std.proofs.Common.{◌≡◌, ℕ, ◌+◌, ◌*◌, ◌<◌, ◌≤◌, Bool, true, false, ◌⊎◌, length, get_or, Some, Option}
use Rattle.std.specs.Option.{option_map}
use Rattle.blend.specs.Stamps.{later}
use Rattle.store.specs.Meaning.{Content, Version, blank}
use Rattle.protocol.specs.Naming.{Naming, mark_for}
use Rattle.protocol.specs.State.{Order, OpenOrder, OrderRow, OpenRead, State}
use Rattle.protocol.specs.Asks.{AllMade, progress, asks_made}
use Rattle.protocol.specs.History.{History, Ordered, current_order, Prepared, Withdrawn, Lists, ListsWith, mark_of, Read, current_read}
use Rattle.protocol.proofs.Tests.{Listed}

-- ── orders and the store ──

abbrev pub Held : Type 0
Held = ℕ → ℕ → Option Content

-- prepared at every place, and not withdrawn
abbrev pub Settled : History → Order → Type 0
Settled h o = record {
  is_order : Ordered h o;
  prepared : (k : ℕ) → k < length o.items → Prepared h o k;
  stands : ¬ Withdrawn h o;
}

abbrev pub filing : OpenOrder → Order
filing x = x.order

-- an order with its marks of preparation is the writer's, and the history agrees
abbrev pub Own : History → ℕ → Order → (ℕ → Bool) → Type 0
Own h w o prepared = record {
  is_order : Ordered h o;
  writer : o.writer ≡ w;
  marked : (k : ℕ) → prepared k ≡ true → Prepared h o k;
  back : (k : ℕ) → Prepared h o k → prepared k ≡ true;
  stands : ¬ Withdrawn h o;
}

abbrev pub Stamped : (ℕ → ℕ) → Order → Type 0
Stamped sequence o = record {
  number : ℕ;
  stamp : o.stamp ≡ number * 16 + o.writer;
  writer : o.writer < 16;
  positive : 1 ≤ number;
  used : number ≤ sequence o.writer;
  listed : Listed o.items;
}

-- an order lists the item, with that stamp, code and mark
abbrev pub Source : Naming → History → ℕ → ℕ → ℕ → ℕ → Type 0
Source ν h i t c m = (o : Order) × Ordered h o × (o.stamp ≡ t) × (m ≡ mark_for ν o.items) × ListsWith o i c

-- no stamp, or that of a settled order that lists the item
abbrev pub From : History → ℕ → ℕ → Type 0
From h i t = (t ≡ 0) ⊎ ((o : Order) × Settled h o × (o.stamp ≡ t) × Lists o i)

abbrev pub Orders : Naming → History → Held → (ℕ → ℕ) → (ℕ → OrderRow) → Type 0
Orders ν h held last writers = record {
  runs : (w : ℕ) → current_order h w ≡ option_map filing (writers w).current;
  own : (w : ℕ) (x : OpenOrder) → (writers w).current ≡ Some x → Own h w x.order x.prepared;
  stamped : (o : Order) → Ordered h o → Stamped (λ w. (writers w).sequence) o;
  unique : (o o' : Order) → Ordered h o → Ordered h o' → o.stamp ≡ o'.stamp → o ≡ o';
  of_prepared : (o : Order) (k : ℕ) → Prepared h o k → Ordered h o;
  of_withdrawn : (o : Order) → Withdrawn h o → Ordered h o;
  held_from : (i t c m : ℕ) → held i t ≡ Some (c, m) → Source ν h i t c m;
  held_of :
      (o : Order) (k : ℕ) → Prepared h o k → held (get_or o.items k 0) o.stamp ≡ Some (get_or o.codes k 0, mark_for ν o.items);
  last_from : (i : ℕ) → From h i (last i);
  of_mark : (o : Order) → Ordered h o → mark_of ν h o.stamp ≡ mark_for ν o.items;
  no_mark : mark_of ν h 0 ≡ 0;
}

abbrev pub OrdersIn : Naming → History → State → Type 0
OrdersIn ν h s = Orders ν h s.store.held s.store.last s.writers

-- ── reads ──

-- the read as the history has it
abbrev pub seen : OpenRead → Read
seen x = record {
  items = x.items;
  first = λ p. option_map (λ (v : Version). v.0) (x.first p);
  again = x.again;
  asks = asks_made (progress x);
}

abbrev pub Shown : Naming → History → ℕ → Version → Type 0
Shown ν h i v =
    (v ≡ blank) ⊎ ((o : Order) × Settled h o × (o.stamp ≡ v.0) × (v.2 ≡ mark_for ν o.items) × ListsWith o i v.1)

-- u is blank, or of a settled order, and if that lists the item i then u is not later than v
abbrev pub Reached : History → ℕ → Version → Version → Type 0
Reached h i v u = (u ≡ blank) ⊎ ((o : Order) × Settled h o × (o.stamp ≡ u.0) × (Lists o i → later u.0 v.0 ≡ false))

abbrev pub Fine : Naming → History → OpenRead → Type 0
Fine ν h x = record {
  listed : Listed x.items;
  firsts : (p : ℕ) (v : Version) → x.first p ≡ Some v → (p < length x.items) × Shown ν h (get_or x.items p 0) v;
  kept_first : (p : ℕ) (v : Version) → x.again p ≡ false → x.first p ≡ Some v → x.kept p ≡ v;
  made : (p : ℕ) → x.again p ≡ true → AllMade (progress x);
  reach : (p : ℕ) → x.again p ≡ true → (q : ℕ) (u : Version) → x.first q ≡ Some u → Reached h (get_or x.items p 0) (x.kept p) u;
  kept : (p : ℕ) (v : Version) → x.first p ≡ Some v → Shown ν h (get_or x.items p 0) (x.kept p);
  not_before : (p : ℕ) (v : Version) → x.first p ≡ Some v → later v.0 (x.kept p).0 ≡ false;
  kept_from : (p : ℕ) (v : Version) → x.first p ≡ Some v → (q : ℕ) × (u : Version) × (x.first q ≡ Some u) × (u.0 ≡ (x.kept p).0);
}

abbrev pub Reads : Naming → History → (ℕ → Option OpenRead) → Type 0
Reads ν h readers = record {
  agree : (r : ℕ) → current_read h r ≡ option_map seen (readers r);
  fine : (r : ℕ) (x : OpenRead) → readers r ≡ Some x → Fine ν h x;
  bound : (r : ℕ) (x : OpenRead) → readers r ≡ Some x → r ≤ 15;
}

abbrev pub Inv : Naming → History → State → Type 0
Inv ν h s = record {
  orders : OrdersIn ν h s;
  reads : Reads ν h s.readers;
}
