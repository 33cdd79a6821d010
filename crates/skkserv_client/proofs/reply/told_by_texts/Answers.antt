use Rattle.dict_format.specs.Views.{texts_seen}
use Rattle.skkserv_client.proofs.Gathered.{told_cands, told_failed}
use Rattle.skkserv_client.proofs.reply.told_by_texts.Goals as goal

pub returns-in_err-cands_of-in-Look : goal.returns-in_err-cands_of-in-Look
returns-in_err-cands_of-in-Look c =
    told_failed c.args.what.now _ (texts_seen c.args.texts.now) c.from_residual.result
    c.in_err-cands_of-in-Look.field-0.0 c.from_residual.ensures.1 c.in-Look.is c.in_err-cands_of-in-Look.ensures

pub returns-in_ok-cands_of-in-Look : goal.returns-in_ok-cands_of-in-Look
returns-in_ok-cands_of-in-Look c =
    told_cands c.args.what.now _ (texts_seen c.args.texts.now) c.in_ok-cands_of-in-Look.field-0 c.in-Look.is
    c.in_ok-cands_of-in-Look.ensures
