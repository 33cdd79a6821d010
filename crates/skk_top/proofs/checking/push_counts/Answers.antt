use Rattle.std.proofs.Common.{◌≡◌, ◌++◌, ◌∷◌, ◌∙◌, [], ap, codes, length}
use Rattle.std.specs.Fmt.{decimal}
use Rattle.skk_calls.specs.declared.part.Part.TheVariants.{Nasi, Ari}
use Rattle.skk_top.specs.CheckedFiles.{count_of}
use Rattle.run_endings.specs.PageLaws.{each_ok}
use Rattle.skk_top.proofs.PrintedChecks.{more}
use Rattle.skk_top.proofs.PrintedTexts.{okuri_ari, okuri_nasi, bad}
use Rattle.skk_top.proofs.checking.push_counts.Goals as goal

pub returns : goal.returns
returns c =
    let page = c.args.page.now in
    let book = c.args.listed.now.book in
    let rows : c.as_slice-rows.result.now ≡ book = c.as_slice-rows.ensures ∙ c.rows.ensures.value in
    let ari = decimal (count_of Ari book) in
    let nasi = decimal (count_of Nasi book) in
    let lines = decimal (length c.args.listed.now.bad) in
    let ari_is : decimal c.count_of.result ≡ ari = ap decimal (c.count_of.ensures ∙ ap (count_of Ari) rows) in
    let nasi_is : decimal c.count_of-2.result ≡ nasi = ap decimal (c.count_of-2.ensures ∙ ap (count_of Nasi) rows) in
    let first : c.push_str.new.self ≡ page ++ codes "okuri-ari " =
    c.in_ok-push_str.ensures.ok ∙ ap (λ t. page ++ t) okuri_ari in
    let second = c.in_ok-push_number.ensures.ok ∙ ap (λ t. c.push_str.new.self ++ t) ari_is
    ∙ more page (codes "okuri-ari ") ari c.push_str.new.self first in
    let third = c.in_ok-push_str-2.ensures.ok ∙ ap (λ t. c.push_number.new.self ++ t) okuri_nasi
    ∙ more page (codes "okuri-ari " ++ ari) (codes " okuri-nasi ") c.push_number.new.self second in
    let fourth = c.in_ok-push_number-2.ensures.ok ∙ ap (λ t. c.push_str-2.new.self ++ t) nasi_is
    ∙ more page (codes "okuri-ari " ++ ari ++ codes " okuri-nasi ") nasi c.push_str-2.new.self third in
    let fifth = c.in_ok-push_str-3.ensures.ok ∙ ap (λ t. c.push_number-2.new.self ++ t) bad ∙ more page
    (codes "okuri-ari " ++ ari ++ codes " okuri-nasi " ++ nasi) (codes " bad ") c.push_number-2.new.self fourth in
    let sixth = c.in_ok-push_number-3.ensures.ok ∙ ap (λ n. c.push_str-3.new.self ++ decimal n) c.len.ensures
    ∙ more page (codes "okuri-ari " ++ ari ++ codes " okuri-nasi " ++ nasi ++ codes " bad ") lines
    c.push_str-3.new.self fifth in
    each_ok c.push.result c.push.ensures.ok
    (λ e. e ∙ more page (codes "okuri-ari " ++ ari ++ codes " okuri-nasi " ++ nasi ++ codes " bad " ++ lines) (10 ∷ [])
    c.push_number-3.new.self sixth)
