-- The characters of the names of keys.
use Rattle.std.proofs.Common.{◌≡◌, codes, refl}
use Rattle.std.specs.Str.{chars}

pub lt : chars (codes "<lt>") ≡ codes "<lt>"
unfolding chars
lt = refl

pub cj : chars (codes "<cj>") ≡ codes "<cj>"
unfolding chars
cj = refl

pub cg : chars (codes "<cg>") ≡ codes "<cg>"
unfolding chars
cg = refl

pub bs : chars (codes "<bs>") ≡ codes "<bs>"
unfolding chars
bs = refl

pub ret : chars (codes "<ret>") ≡ codes "<ret>"
unfolding chars
ret = refl

pub tab : chars (codes "<tab>") ≡ codes "<tab>"
unfolding chars
tab = refl

pub undo : chars (codes "<undo>") ≡ codes "<undo>"
unfolding chars
undo = refl

pub ruleset key_names = (lt, cj, cg, bs, ret, tab, undo)
