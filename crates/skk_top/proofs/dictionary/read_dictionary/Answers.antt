use Rattle.skk_top.proofs.RunFiles.{each_value}
use Rattle.skk_top.proofs.dictionary.read_dictionary.Goals as goal

-- what is listed is what the bytes list that were read
pub returns-in-Ok-clause-listed : goal.returns-in-Ok-clause-listed
returns-in-Ok-clause-listed g c =
    each_value c.listed_in.result (λ listed is. (c.as_slice.result.now, is)) c.listed_in.ensures.lists
