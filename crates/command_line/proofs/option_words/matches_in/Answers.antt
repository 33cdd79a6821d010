use Rattle.std.proofs.Common.{◌≡◌, ◌∙◌, ap, map}
use lib.Utf8.{encodes}
use Rattle.std.proofs.lemmas.Option.{IfSome_then}
use Rattle.std.proofs.lemmas.Result.{IfErr-weaker, IfOk-weaker}
use Rattle.clap.specs.Words.{App, app_of, is_simple, matches_of, takes}
use Rattle.command_line.specs.OptionLaws.{some-of}
use Rattle.command_line.specs.OptionWords.{option_app, settings_asked}
use Rattle.command_line.proofs.OptionsRead.{is_read}
use Rattle.command_line.proofs.option_words.matches_in.Goals as goal

pub returns : goal.returns
returns c =
    let name = c.args.name in
    let words = map encodes c.args.words.now in
    let asked = settings_asked name c.args.words.now in
    let parse = c.try_get_matches_from in
    let app : app_of c.in_ok-command.command ≡ option_app name = c.in_ok-command.ensures in
    let is = is_read name c.args.words.now c.requires.options in
    let one = some-of asked c.requires.asked is in
    let simple = ap is_simple app ∙ one.1.simple in
    record {
      ok = IfOk-weaker parse.result _ _ (λ m h. IfSome_then asked is (λ settings r.
          r.gives m ((h simple).0 ∙ ap (λ (a : App). matches_of a words) app))) parse.ensures.matches;
      err = IfErr-weaker parse.result _ _ (λ e h. h (ap (λ (a : App). takes a words) app ∙ one.1.taken))
          parse.ensures.passes;
    }
