-- The characters of the texts that are printed.
use Rattle.std.proofs.Common.{◌≡◌, ◌∷◌, [], codes, refl}
use Rattle.std.specs.Str.{chars}

pub hira : chars (227 ∷ 129 ∷ 139 ∷ 227 ∷ 129 ∷ 170 ∷ []) ≡ codes "かな"
unfolding chars
hira = refl

pub kata : chars (227 ∷ 130 ∷ 171 ∷ 227 ∷ 131 ∷ 138 ∷ []) ≡ codes "カナ"
unfolding chars
kata = refl

pub ascii : chars (codes "SKK") ≡ codes "SKK"
unfolding chars
ascii = refl

pub wide : chars (229 ∷ 133 ∷ 168 ∷ 232 ∷ 139 ∷ 177 ∷ []) ≡ codes "全英"
unfolding chars
wide = refl

pub none : chars [] ≡ []
unfolding chars
none = refl

pub limit : chars (codes "limit") ≡ codes "limit"
unfolding chars
limit = refl

pub reading : chars (codes "reading") ≡ codes "reading"
unfolding chars
reading = refl

pub no_more : chars (codes "no-more") ≡ codes "no-more"
unfolding chars
no_more = refl

pub no_completion : chars (codes "no-completion") ≡ codes "no-completion"
unfolding chars
no_completion = refl

pub no_undo : chars (codes "no-undo") ≡ codes "no-undo"
unfolding chars
no_undo = refl

pub no_candidate : chars (codes "no-candidate") ≡ codes "no-candidate"
unfolding chars
no_candidate = refl

pub line_feed : chars (92 ∷ 110 ∷ []) ≡ 92 ∷ 110 ∷ []
unfolding chars
line_feed = refl

pub return : chars (92 ∷ 114 ∷ []) ≡ 92 ∷ 114 ∷ []
unfolding chars
return = refl

pub tab : chars (92 ∷ 116 ∷ []) ≡ 92 ∷ 116 ∷ []
unfolding chars
tab = refl

pub backslash : chars (92 ∷ 92 ∷ []) ≡ 92 ∷ 92 ∷ []
unfolding chars
backslash = refl

pub newline : chars (10 ∷ []) ≡ 10 ∷ []
unfolding chars
newline = refl

pub question : chars (91 ∷ 229 ∷ 137 ∷ 138 ∷ 233 ∷ 153 ∷ 164 ∷ 32 ∷ 89 ∷ 47 ∷ 78 ∷ 93 ∷ []) ≡ codes "[削除 Y/N]"
unfolding chars
question = refl

pub refused_memory : chars (codes "refused memory") ≡ codes "refused memory"
unfolding chars
refused_memory = refl

pub refused_disk : chars (codes "refused disk") ≡ codes "refused disk"
unfolding chars
refused_disk = refl

pub purged : chars (codes "purged") ≡ codes "purged"
unfolding chars
purged = refl

pub unchanged : chars (codes "unchanged") ≡ codes "unchanged"
unfolding chars
unchanged = refl

pub undone : chars (codes "undone") ≡ codes "undone"
unfolding chars
undone = refl

pub overtaken : chars (codes "overtaken ") ≡ codes "overtaken "
unfolding chars
overtaken = refl

pub too_big : chars (codes "too-big ") ≡ codes "too-big "
unfolding chars
too_big = refl

pub stamps_end : chars (codes "stamps-end") ≡ codes "stamps-end"
unfolding chars
stamps_end = refl

pub depth : chars (codes "depth 8") ≡ codes "depth 8"
unfolding chars
depth = refl

pub registration : chars (232 ∷ 190 ∷ 158 ∷ 230 ∷ 155 ∷ 184 ∷ 231 ∷ 153 ∷ 187 ∷ 233 ∷ 140 ∷ 178 ∷ [])
    ≡ codes "辞書登録"
unfolding chars
registration = refl

pub note_line : chars (230 ∷ 179 ∷ 168 ∷ 233 ∷ 135 ∷ 136 ∷ 231 ∷ 153 ∷ 187 ∷ 233 ∷ 140 ∷ 178 ∷ [])
    ≡ codes "注釈登録"
unfolding chars
note_line = refl

pub annotated : chars (codes "annotated") ≡ codes "annotated"
unfolding chars
annotated = refl

pub bad_note : chars (codes "note") ≡ codes "note"
unfolding chars
bad_note = refl

pub ruleset words = (
  hira,
  kata,
  ascii,
  wide,
  none,
  limit,
  reading,
  no_more,
  no_completion,
  no_undo,
  no_candidate,
  line_feed,
  return,
  tab,
  backslash,
  newline,
  question,
  refused_memory,
  refused_disk,
  purged,
  unchanged,
  undone,
  overtaken,
  too_big,
  stamps_end,
  depth,
  registration,
  note_line,
  annotated,
  bad_note,
)
