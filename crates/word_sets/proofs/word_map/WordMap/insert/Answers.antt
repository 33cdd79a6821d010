use Rattle.std.proofs.Common.{◌≡◌, ◌∙◌, ◌+◌, ap, arith, if◌then◌else◌, is_some, map, unwrap_or}
use Rattle.std.specs.Map.{lookup}
use Rattle.std.specs.String.{string_eq}
use Rattle.std.proofs.lemmas.Grind.{common_steps}
use Rattle.indexmap.specs.Entry.{map_with_value}
use Rattle.indexmap.specs.IndexMap.{index_map_len, insert_entry}
use Rattle.skk_calls.specs.Rows.{has_text}
use Rattle.word_sets.specs.Firsts.{with_new}
use Rattle.word_sets.specs.Strings.{characters, worded, words_in}
use Rattle.word_sets.proofs.WordMaps.{has_string, inserted}
use Rattle.word_sets.proofs.word_map.WordMap.insert.Goals as goal

pub returns-clause-ok : goal.returns-clause-ok
returns-clause-ok g c =
    let entry = c.in_ok-self-inside.ensures in
    let word = c.args.word in
    let entries = c.self.inside.values.entries in
    let first = c.or_insert.result.now in
    let made : words_in (map_with_value c.in_ok-self-inside.field-0 first)
    ≡ with_new (λ pair. pair.0) c.args.self.now (characters word, c.args.value) =
    ap (map worded) (entry.update.1 first ∙ ap (insert_entry string_eq entries word)
    (c.or_insert.ensures.value ∙ ap (λ o. unwrap_or o c.args.value) entry.value))
    ∙ inserted word c.args.value entries
    ∙ ap (λ pairs. with_new (λ pair. pair.0) pairs (characters word, c.args.value)) c.self.view_is in
    grind (arith, common_steps, made, entry.same_map)

pub returns-clause-is_new : goal.returns-clause-is_new
returns-clause-is_new g c =
    let entry = c.in_ok-self-inside.ensures in
    let word = c.args.word in
    let values = c.self.inside.values in
    let longer : index_map_len (map_with_value c.in_ok-self-inside.field-0 c.or_insert.result.now)
    ≡ index_map_len values + (if is_some (lookup (string_eq word) values.entries) then 0 else 1) =
    entry.len c.or_insert.result.now ∙ ap (λ o. index_map_len values + (if is_some o then 0 else 1)) entry.value in
    let there : is_some (lookup (string_eq word) values.entries)
    ≡ has_text (map (λ pair. pair.0) c.args.self.now) (characters word) =
    has_string word values.entries
    ∙ ap (λ pairs. has_text (map (λ pair. pair.0) pairs) (characters word)) c.self.view_is in
    grind (arith, common_steps, longer, there, entry.same_map)
