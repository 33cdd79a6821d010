use Rattle.std.proofs.Common.{◌∙◌, ap, map}
use Rattle.std.specs.Option.{ghost_name_of}
use Rattle.word_sets.specs.Strings.{worded}
use Rattle.word_sets.proofs.WordMaps.{found, written}
use Rattle.word_sets.proofs.word_map.WordMap.value_mut.Goals as goal
use borrow.Follows.Closed.{read_of}

pub returns : goal.returns
returns g c =
    let word = c.args.word.now in
    let entries = c.self.inside.values.entries in
    rw (← c.self.view_is) (
      λ i. read_of (ghost_name_of c.get_mut.result)
          (λ (w : g.row.V.Denot).
          (ap (map worded) (c.get_mut.follows.holds w).0 ∙ written word c.utf8.word entries w) i)
          (ap (λ values. map worded values.entries) c.get_mut.follows.holds-at-none i),
      c.get_mut.ensures.value ∙ found word c.utf8.word entries,
    )
