use Rattle.std.proofs.Common.{◌≡◌, ℕ, get_or, ◌<◌, ◌≤◌, length, Some, None, Ok, Err, Option, refl, ap, ◌∙◌, subst, arith}
use Rattle.blend.specs.Refusals.{first_of}
use Rattle.std.specs.Option.{option_map}
use Rattle.std.proofs.lemmas.Result.{err_from_is_err_and}
use Rattle.std.proofs.lemmas.List.{get_or_default}
use Rattle.store.specs.Meaning.{Version, later_version}
use Rattle.protocol.specs.Calls.{by_reader, second_ask}
use Rattle.rows.specs.declared.fault.Fault.{Fault}
use Rattle.rows.specs.declared.read.ReadRow.{ReadRow}
use Rattle.rows.specs.declared.read_calls.ReadCall.TheVariants.{Second}
use Rattle.rows.specs.Faults.{number_of}
use Rattle.rows.specs.ReadCalls.{read_tests}
use Rattle.rows.specs.Rows.{reading, empty_read_row}
use Rattle.service.specs.Asking.{AskedAgain}
use Rattle.protocol.specs.State.{OpenRead, the_read}
use Rattle.protocol.specs.Step.{second_asked}
use Rattle.protocol.proofs.Intro.{second_in}
use Rattle.service.specs.Meaning.{meaning}
use Rattle.service.proofs.Admitted.{may_second, second_made, second_due, second_early, refused_as, about_as, read_set}
use Rattle.service.proofs.state.Service.second_ask.Goals as goal

pub returns-in_err-admit : goal.returns-in_err-admit
returns-in_err-admit g c =
    let ν = g.N.Naming.rule in
    let s = meaning g.S.Store.view c.args.self.now in
    let r = c.args.reader in
    let p = c.args.place in
    let row = c.in_ok-row.ensures in
    let fault = c.in_err-admit.field-0.0 in
    let b = err_from_is_err_and c.from_residual-in_err-admit.result c.from_residual-in_err-admit.ensures.1 in
    let is : c.from_residual-in_err-admit.result ≡ Err fault = b.1 ∙ ap (λ (f : Fault). Err f) b.2 in
    record {
      step =
          refused_as ν s s (by_reader r (second_ask p)) c.from_residual-in_err-admit.result fault is
          (second_early ν s r p _ row.within (subst (λ (z : ReadRow). first_of (read_tests ν (reading z) (Second p)) ≡ Some (number_of fault)) row.value c.in_err-admit.ensures.answer), refl);
      carries = about_as _ c.from_residual-in_err-admit.result fault is (c.in_err-admit.ensures.own _);
    }

pub returns : goal.returns
returns g c =
    let ν = g.N.Naming.rule in
    let view = g.S.Store.view in
    let x = c.args.self.now in
    let s = meaning view x in
    let r = c.args.reader in
    let p = c.args.place in
    let o : Option OpenRead = s.readers r in
    let row = c.in_ok-row.ensures in
    let pass = subst (λ (z : ReadRow). first_of (read_tests ν (reading z) (Second p)) ≡ None) row.value c.in_ok-admit.ensures.answer in
    let in-read = may_second ν o p pass in
    let v : Version = c.in_ok-version.version in
    let got = subst (λ (z : ReadRow). AskedAgain ν (view x.store) (the_read (reading z)) p (Ok v)) row.value c.in_ok-version.ensures in
    let kept = subst (λ (z : ReadRow). c.kept.result ≡ (the_read (reading z)).kept p) row.value c.kept.ensures in
    let h : r < length x.reads.rows = grind arith in
    let d = c.index-self-from.result in
    let at_reader : reading (get_or x.reads.rows c.from.result d) ≡ o =
    ap (λ (m : ℕ). reading (get_or x.reads.rows m d)) c.from.ensures ∙ ap reading (get_or_default x.reads.rows r d empty_read_row h)
    in
    let few : p < 8 = let a = in-read.within in let b = subst (λ (z : ReadRow). length (the_read (reading z)).items ≤ 8) row.value c.in_ok-admit.ensures.few in omega arith in
    record {
      step =
          second_in ν s _ r row.within (the_read o) in-read.there p in-read.within c.later_version-kept.result.0
          (second_made ν o p pass) (second_due ν o p pass) got.passes v got.value
          (ap (λ (u : Version). u.0) (c.later_version-kept.ensures ∙ ap (λ (k : Version). later_version k v) kept))
          (read_set view x r _ c.from.ensures _ _ h
          (c.keep_second.ensures few ∙
          ap (λ (z : Option OpenRead). option_map (λ (y : OpenRead). second_asked y p v) z) (at_reader ∙ in-read.there)));
      carries = tt;
    }
