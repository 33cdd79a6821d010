use Rattle.std.proofs.Common.{◌∙◌, ap, refl, sym}
use Rattle.skk_calls.specs.declared.part.Part.TheVariants.{Nasi, Ari}
use Rattle.word_sets.specs.Firsts.{with_new}
use Rattle.dict_format.proofs.FileRows.{knows-added}
use Rattle.dict_format.proofs.readings.Readings.add.Goals as goal

pub returns-in_ok-is_new-in-Nasi-clause-known : goal.returns-in_ok-is_new-in-Nasi-clause-known
returns-in_ok-is_new-in-Nasi-clause-known c =
    let known = c.args.self.now.nasi in
    let added = c.in_ok-is_new-in-Nasi.ensures.known ∙ ap (with_new (λ text. text) known) c.reading.ensures.value in
    knows-added Nasi c.args.self.now (record c.args.self.now { nasi = c.add_reading.new.known }) c.args.key.now
    (sym c.part.ensures.value ∙ c.in-Nasi.is) (elim [ Nasi ↦ added | Ari ↦ refl ])

pub returns-in_ok-is_new-in-Ari-clause-known : goal.returns-in_ok-is_new-in-Ari-clause-known
returns-in_ok-is_new-in-Ari-clause-known c =
    let known = c.args.self.now.ari in
    let added =
    c.in_ok-is_new-in-Ari.ensures.known ∙ ap (with_new (λ text. text) known) c.reading-in-Ari.ensures.value in
    knows-added Ari c.args.self.now (record c.args.self.now { ari = c.add_reading-in-Ari.new.known }) c.args.key.now
    (sym c.part.ensures.value ∙ c.in-Ari.is) (elim [ Nasi ↦ refl | Ari ↦ added ])
