use Rattle.std.proofs.Common.{◌∙◌, ap, ◌++◌}
use Rattle.std.specs.Str.{chars}
use Rattle.std.proofs.lemmas.Result.{on_ok_weaker}
use Rattle.std.proofs.lemmas.Str.{chars-append}
use Rattle.skk_text.proofs.text.Text.push_str.Goals as goal

pub returns-clause-ok : goal.returns-clause-ok
returns-clause-ok c =
    let added = c.args.added.now in
    on_ok_weaker c.push_str.result
    (λ bytes. ap chars bytes ∙ chars-append c.self.inside.content added c.push_str.ensures.utf8
    ∙ ap (λ cs. cs ++ chars added) c.self.view_is)
    c.push_str.ensures.ok
