use Rattle.skkserv_proto.proofs.Feeds.{fed-nothing}
use Rattle.skkserv_proto.proofs.feeder.Feeder.new.Goals as goal

pub returns : goal.returns
returns c = fed-nothing
