use Rattle.std.proofs.Common.{◌≡◌, ◌++◌, ◌∷◌, ◌∙◌, [], ap, codes}
use Rattle.std.specs.Fmt.{decimal}
use Rattle.skk_top.specs.CheckedFiles.{reason_name}
use Rattle.run_endings.specs.PageLaws.{each_ok}
use Rattle.skk_top.proofs.PrintedChecks.{more}
use Rattle.skk_top.proofs.PrintedTexts.{line}
use Rattle.skk_top.proofs.checking.push_bad_line.Goals as goal

pub returns : goal.returns
returns c =
    let page = c.args.page.now in
    let number = decimal c.args.bad.now.line in
    let name = reason_name c.args.bad.now.reason in
    let first : c.push_str.new.self ≡ page ++ codes "line " = c.in_ok-push_str.ensures.ok ∙ ap (λ t. page ++ t) line in
    let second = c.in_ok-push_number.ensures.ok ∙ more page (codes "line ") number c.push_str.new.self first in
    let third = c.in_ok-push.ensures.ok
    ∙ more page (codes "line " ++ number) (codes " ") c.push_number.new.self second in
    let fourth = c.in_ok-push_str-2.ensures.ok ∙ ap (λ t. c.push.new.self ++ t) c.reason_name.ensures
    ∙ more page (codes "line " ++ number ++ codes " ") name c.push.new.self third in
    each_ok c.push-2.result c.push-2.ensures.ok
    (λ e. e ∙ more page (codes "line " ++ number ++ codes " " ++ name) (10 ∷ []) c.push_str-2.new.self fourth)
