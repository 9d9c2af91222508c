use Rattle.std.proofs.Common.{◌==◌, length, not, rules, tests}
use Rattle.std.proofs.lemmas.Iterator.{items_from_collect, YieldsList-from_map}
use Rattle.std.proofs.lemmas.Iterator.Consumers.{YieldsList-at, YieldsList-from_filter}
use Rattle.std.proofs.lemmas.Iterator.Splits.{YieldsList-from_slice_split}
use Rattle.text.specs.Tokens.{is_blank, token_at}
use Rattle.text.proofs.Steps.{split_tokens}
use Rattle.text.proofs.token.tokens.Goals as goal

pub returns : goal.returns
returns c =
    rw (← split_tokens c.args.line.now)
    (items_from_collect c.collect.result c.collect.ensures.ran
    (YieldsList-from_map _ token_at
    (YieldsList-at c.map.ensures.source
    (YieldsList-from_filter _ (λ w. not (length w == 0))
    (YieldsList-at c.filter.ensures.source
    (YieldsList-from_slice_split _ is_blank c.args.line.now c.split.ensures.rest c.split.ensures.done c.split.ensures.closure
    (λ x b q k. search (rules, tests))))
    c.filter.ensures.closure (λ x b q k. search (rules, tests))))
    c.map.ensures.closure (λ x r q k. search rules)))
