-- The characters of the texts that are printed.
use Rattle.std.proofs.Common.{◌≡◌, codes, refl}
use Rattle.std.specs.Str.{chars}

-- what `check` prints
pub long_line : chars (codes "LongLine") ≡ codes "LongLine"
unfolding chars
long_line = refl

pub no_space : chars (codes "NoSpace") ≡ codes "NoSpace"
unfolding chars
no_space = refl

pub bad_reading : chars (codes "BadReading") ≡ codes "BadReading"
unfolding chars
bad_reading = refl

pub long_reading : chars (codes "LongReading") ≡ codes "LongReading"
unfolding chars
long_reading = refl

pub okuri_key : chars (codes "OkuriKey") ≡ codes "OkuriKey"
unfolding chars
okuri_key = refl

pub no_slash : chars (codes "NoSlash") ≡ codes "NoSlash"
unfolding chars
no_slash = refl

pub block : chars (codes "Block") ≡ codes "Block"
unfolding chars
block = refl

pub long_candidate : chars (codes "LongCandidate") ≡ codes "LongCandidate"
unfolding chars
long_candidate = refl

pub no_candidates : chars (codes "Empty") ≡ codes "Empty"
unfolding chars
no_candidates = refl

pub twice : chars (codes "Twice") ≡ codes "Twice"
unfolding chars
twice = refl

pub line : chars (codes "line ") ≡ codes "line "
unfolding chars
line = refl

pub okuri_ari : chars (codes "okuri-ari ") ≡ codes "okuri-ari "
unfolding chars
okuri_ari = refl

pub okuri_nasi : chars (codes " okuri-nasi ") ≡ codes " okuri-nasi "
unfolding chars
okuri_nasi = refl

pub bad : chars (codes " bad ") ≡ codes " bad "
unfolding chars
bad = refl

pub ruleset check_words = (
  long_line,
  no_space,
  bad_reading,
  long_reading,
  okuri_key,
  no_slash,
  block,
  long_candidate,
  no_candidates,
  twice,
  line,
  okuri_ari,
  okuri_nasi,
  bad,
)

-- what `load` prints
pub lines : chars (codes "lines ") ≡ codes "lines "
unfolding chars
lines = refl

pub learned : chars (codes "learned ") ≡ codes "learned "
unfolding chars
learned = refl

pub restored : chars (codes "restored ") ≡ codes "restored "
unfolding chars
restored = refl

pub rows : chars (codes "rows ") ≡ codes "rows "
unfolding chars
rows = refl

pub bytes : chars (codes "bytes ") ≡ codes "bytes "
unfolding chars
bytes = refl

pub ruleset summary_words = (lines, learned, restored, rows, bytes)

-- what `share` prints
pub typist : chars (codes "typist ") ≡ codes "typist "
unfolding chars
typist = refl

pub books : chars (codes " books ") ≡ codes " books "
unfolding chars
books = refl
