use Rattle.std.proofs.Common.{◌≡◌, ◌++◌, ◌∷◌, ◌∙◌, [], ap, codes}
use Rattle.std.specs.Fmt.{decimal}
use Rattle.command_line.specs.Words.{with_commas}
use Rattle.run_endings.specs.PageLaws.{each_ok}
use Rattle.skk_top.proofs.PrintedChecks.{more}
use Rattle.skk_top.proofs.PrintedTexts.{typist, books}
use Rattle.skk_top.proofs.share_command.push_list.Goals as goal

pub returns : goal.returns
returns c =
    let page = c.args.page.now in
    let number = decimal c.args.typist in
    let list = with_commas c.args.books.now in
    let first : c.push_str.new.self ≡ page ++ codes "typist " =
    c.in_ok-push_str.ensures.ok ∙ ap (λ t. page ++ t) typist in
    let second = c.in_ok-push_number.ensures.ok ∙ more page (codes "typist ") number c.push_str.new.self first in
    let third = c.in_ok-push_str-2.ensures.ok ∙ ap (λ t. c.push_number.new.self ++ t) books
    ∙ more page (codes "typist " ++ number) (codes " books ") c.push_number.new.self second in
    let fourth = c.in_ok-push_books.ensures
    ∙ more page (codes "typist " ++ number ++ codes " books ") list c.push_str-2.new.self third in
    each_ok c.push.result c.push.ensures.ok
    (λ e. e ∙ more page (codes "typist " ++ number ++ codes " books " ++ list) (10 ∷ []) c.push_books.new.page fourth)
