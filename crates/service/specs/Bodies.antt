-- What a place shows, taken as a body.
use Rattle.std.specs.Prelude.{◌≡◌, ℕ, cond, Some, None, Ok, Err, Option, Result, ◌==◌}
use Rattle.blend.specs.declared.item.Kind.{Kind}
use Rattle.blend.specs.Items.{of_kind}
use Rattle.store.specs.Meaning.{Version}
use Rattle.protocol.specs.State.{OpenRead}
use Rattle.protocol.specs.Refusals.{read_item}
use Rattle.rows.specs.declared.fault.Fault.{Fault}
use Rattle.rows.specs.declared.fault.Fault.TheVariants as fault
use Rattle.rows.specs.Faults.{refusal_in}

-- the blank has no body, whatever its code would decode to
abbrev pub body_of : {B : Type 0} → (ℕ → Option B) → Version → Option B
body_of decodes v = cond (v.0 == 0) None (decodes v.1)

-- refused where the kind is not the item's
abbrev pub body_shown : {B : Type 0} → Kind → (ℕ → Option B) → OpenRead → ℕ → Result (Option B) Fault
body_shown k decodes x p = cond (of_kind (read_item x p) k) (Ok (body_of decodes (x.kept p))) (Err fault.Kind)

-- the take's own refusal comes first
abbrev pub Taken : {B : Type 0} → Option ℕ → Result (Option B) Fault → Result (Option B) Fault → Type 0
Taken (Some n) body r = refusal_in r ≡ Some n
Taken None body r = r ≡ body
