use Rattle.std.proofs.Common.{◌∙◌, ◌∷◌, [], ◌++◌, sym, subst, inr}
use Rattle.romaji_rules.specs.Fed.{BeginsInput}
use Rattle.romaji_rules.proofs.Begins.{begins_input-Decides}
use Rattle.romaji_rules.proofs.Fits.{begins-fits_behind, found-fits, found-waits}
use Rattle.romaji_rules.proofs.rules.Rules.go_on.Goals as goal

pub push-requires : goal.push-requires
push-requires c =
    let fits = begins-fits_behind c.args.self.now c.standing.ensures.fits c.args.pending.now c.args.c
    c.in-Begins.ensures.standing in
    record { room = fits.0; ascii = fits.1 }

pub of-requires : goal.of-requires
of-requires c =
    let fits = found-fits c.args.self.now c.standing.ensures.fits (c.args.pending.now ++ c.args.c ∷ [])
    c.as_slice.result.now c.in-Input.rule.now c.in-Input.ensures.standing.1 c.as_slice.ensures in
    record { ascii = fits.0; short = fits.1 }

pub returns-in-Begins-clause-waits : goal.returns-in-Begins-clause-waits
returns-in-Begins-clause-waits c _ =
    inr (subst (BeginsInput c.args.self.now) (sym c.push.ensures)
    ((begins_input-Decides c.args.self.now (c.args.pending.now ++ c.args.c ∷ [])).0 c.in-Begins.ensures.standing))

pub returns-in-Input-clause-waits : goal.returns-in-Input-clause-waits
returns-in-Input-clause-waits c _ =
    found-waits c.args.self.now c.standing.ensures.fits (c.args.pending.now ++ c.args.c ∷ []) c.of.result
    c.in-Input.rule.now c.in-Input.ensures.standing.1 (c.of.ensures ∙ c.as_slice.ensures)
