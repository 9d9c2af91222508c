-- What the rows mean, as rows of the protocol's state.
use Rattle.std.specs.Prelude.{ℕ, false, List, map, take, length, None, Option, slice_index_or}
use Rattle.std.specs.Option.{option_map}
use Rattle.store.specs.Meaning.{blank}
use Rattle.protocol.specs.State as protocol
use Rattle.protocol.specs.Naming.{padded}
use Rattle.rows.specs.declared.order.OrderPlace.{OrderPlace}
use Rattle.rows.specs.declared.order.OpenOrder.{OpenOrder}
use Rattle.rows.specs.declared.order.OrderRow.{OrderRow}
use Rattle.rows.specs.declared.read.ReadPlace.{ReadPlace}
use Rattle.rows.specs.declared.read.OpenRead.{OpenRead}
use Rattle.rows.specs.declared.read.ReadRow.{ReadRow}

-- a place of no item, of which nothing was asked
abbrev pub no_order_place : OrderPlace
no_order_place = record { item = 0; code = 0; prepared = false; committed = false }

abbrev pub no_read_place : ReadPlace
no_read_place = record { item = 0; first = None; again = false; kept = blank }

abbrev pub order_place : OpenOrder → ℕ → OrderPlace
order_place x k = slice_index_or x.places k no_order_place

-- the items of the places that are listed, and their codes
abbrev pub order_items : OpenOrder → List ℕ
order_items x = map (λ p. p.item) (take x.count x.places)

abbrev pub order_codes : OpenOrder → List ℕ
order_codes x = map (λ p. p.code) (take x.count x.places)

abbrev pub order_in : ℕ → OpenOrder → protocol.OpenOrder
order_in w x = record {
  order = record {
    writer = w;
    items = order_items x;
    codes = order_codes x;
    stamp = x.stamp;
  };
  prepared = λ k. (order_place x k).prepared;
  committed = λ k. (order_place x k).committed;
}

-- an order as it is made of the first eight of a list of items, each with its code, 0 past the codes
abbrev pub order_laid : ℕ → ℕ → List ℕ → List ℕ → protocol.OpenOrder
order_laid w t items codes = record {
  order = record {
    writer = w;
    items = take 8 items;
    codes = padded (length (take 8 items)) codes;
    stamp = t;
  };
  prepared = λ k. false;
  committed = λ k. false;
}

-- the row of the writer w
abbrev pub row_of : ℕ → OrderRow → protocol.OrderRow
row_of w x = record { sequence = x.sequence; current = option_map (order_in w) x.current }

abbrev pub empty_row : OrderRow
empty_row = record { sequence = 0; current = None }

abbrev pub read_place : OpenRead → ℕ → ReadPlace
read_place x k = slice_index_or x.places k no_read_place

abbrev pub read_in : OpenRead → protocol.OpenRead
read_in x = record {
  items = map (λ p. p.item) (take x.count x.places);
  first = λ k. (read_place x k).first;
  again = λ k. (read_place x k).again;
  kept = λ k. (read_place x k).kept;
}

abbrev pub reading : ReadRow → Option protocol.OpenRead
reading x = option_map read_in x.current

abbrev pub empty_read_row : ReadRow
empty_read_row = record { current = None }
