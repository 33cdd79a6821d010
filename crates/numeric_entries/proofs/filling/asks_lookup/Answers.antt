use Rattle.numeric_entries.proofs.Lookups.{found-Holds, found-asks_lookup}
use Rattle.numeric_entries.proofs.filling.asks_lookup.Goals as goal

pub returns : goal.returns
returns c =
    let told =
    found-Holds c.contains.result c.as_str.result.now c.args.word.now c.as_str.utf8 c.as_str.ensures.value
    c.as_str.ensures.characters c.contains.ensures.cases in
    record { form = found-asks_lookup c.contains.result c.args.word.now told; holds = told }
