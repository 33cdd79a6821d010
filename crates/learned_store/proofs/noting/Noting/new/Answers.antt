use Rattle.std.proofs.Common.{◌≡◌, ◌∙◌, sym, ap, subst, List, [], ◌∷◌}
use Rattle.skk_calls.specs.declared.chronicle.Noted.{Noted}
use Rattle.skk_calls.specs.Chronicles.{history_of}
use Rattle.skk_calls.specs.Histories.{Opening}
use Rattle.skk_calls.specs.Tallies.{tally_of}
use Rattle.learned_store.specs.Stands.{Stands, opening_note}
use Rattle.learned_store.proofs.Noted.{stands_begun}
use Rattle.learned_store.proofs.noting.Noting.new.Goals as goal

pub invariant_of-result : goal.invariant_of-result
invariant_of-result g c =
    let opening = g.N.OpeningName.opening in
    let notes : c.in-Ok.trace ≡ opening_note opening ∷ [] =
    c.in-Ok.ensures ∙ ap (λ (o : Opening). opening_note o ∷ []) (sym c.requires.named) in (
      subst (λ (n : List Noted).
          Stands g.D.Disk opening g.N.LearnedName.past n c.args.store) (sym notes)
          (stands_begun g.D.Disk opening g.N.LearnedName.past c.args.store c.requires.named
          c.requires.past c.requires.calm),
      c.none.ensures ∙ sym (c.counting_comes_to_the_tally.ensures.none opening.state)
          ∙ ap (λ (n : List Noted). record (tally_of opening.state (history_of n)) { rows = 0 }) (sym notes),
    )
