use Rattle.std.proofs.Common.{◌≡◌, ◌<◌, ◌∙◌, ◌+◌, Some, None, List, [], ◌∷◌, ◌++◌, take, sym, ap, refl, subst}
use Rattle.std.specs.List.{cons_option}
use Rattle.std.proofs.lemmas.List.{append-nil}
use Rattle.command_line.specs.Settings.{times, text_for, texts_of}
use Rattle.command_line.specs.declared.setting.Setting.{Setting}
use Rattle.command_line.proofs.SettingLists.{texts-many, texts-more}
use Rattle.command_line.proofs.settings.Settings.texts.Goals as goal
use Rattle.command_line.proofs.settings.Settings.texts.Goals.{in-Some+in_ok-push_text, in_default}

pub returns-in_err-push_text : goal.returns-in_err-push_text
returns-in_err-push_text c =
    let items = c.as_slice-setting-items.result.now in
    let one : text_for c.args.argument c.setting-item.result ≡ Some c.in-Some.word =
    sym c.text_for.ensures ∙ c.in-Some.is in
    let many : 16 < times c.args.argument items =
    texts-many c.args.argument items c.loop-setting.texts.items c.loop-setting.setting-index c.setting-item.result
    c.in-Some.word c.loop-setting-test.true c.setting-item.is c.loop-setting.invariant one
    (c.in_err-push_text.ensures.none refl) in
    rw c.from_residual.ensures (subst (λ (s : List Setting). 16 < times c.args.argument s)
    (c.as_slice-setting-items.ensures.value ∙ c.self.view_is) many)

pub loop-setting-preserved : goal.loop-setting-preserved
loop-setting-preserved c =
    let items = c.as_slice-setting-items.result.now in
    let place = c.loop-setting.setting-index in
    let before = texts_of c.args.argument (take place items) in
    let more =
    texts-more c.args.argument items place c.setting-item.result c.loop-setting-test.true c.setting-item.is in
    elim c.match-text_for.branch [
      | in-Some+in_ok-push_text w ↦
          let one : text_for c.args.argument c.setting-item.result ≡ Some w.in-Some.word =
          sym c.text_for.ensures ∙ w.in-Some.is in
          let pushed = w.in_ok-push_text.ensures.some refl in
          let last : texts_of c.args.argument (take (place + 1) items) ≡ before ++ w.in-Some.word ∷ [] =
          more ∙ ap (λ o. before ++ cons_option o []) one in
          cc
      | in_default w ↦
          let none : text_for c.args.argument c.setting-item.result ≡ None = sym c.text_for.ensures ∙ w.in_default.is in
          let last : texts_of c.args.argument (take (place + 1) items) ≡ before =
          more ∙ ap (λ o. before ++ cons_option o []) none ∙ append-nil before in
          cc
    ]
