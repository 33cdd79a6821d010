use Rattle.std.proofs.Common.{◌++◌, ◌∷◌, ◌∙◌, []}
use Rattle.std.specs.Fmt.{decimal}
use Rattle.std.specs.Str.{chars}
use Rattle.run_endings.specs.PageLaws.{each_ok}
use Rattle.skk_top.proofs.PrintedChecks.{more}
use Rattle.skk_top.proofs.summary.push_number_line.Goals as goal

pub returns : goal.returns
returns c =
    let page = c.args.page.now in
    let word = chars c.args.word.now in
    let number = decimal c.args.number in
    each_ok c.push.result c.push.ensures.ok
    (λ e. e ∙ more page (word ++ number) (10 ∷ []) c.push_number.new.self
    (c.in_ok-push_number.ensures.ok ∙ more page word number c.push_str.new.self c.in_ok-push_str.ensures.ok))
