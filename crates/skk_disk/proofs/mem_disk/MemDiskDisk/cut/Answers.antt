use Rattle.skk_disk.proofs.CallSteps.{cut_images, cut_partly, cut_past, cut_is}
use Rattle.skk_disk.proofs.mem_disk.MemDiskDisk.cut.Goals as goal

pub returns-clause-cut : goal.returns-clause-cut
returns-clause-cut c =
    cut_is c.make_cut.result c.args.file c.args.len c.args.self.now c.make_cut.new.self c.make_cut.ensures.ok

pub returns-clause-partly : goal.returns-clause-partly
returns-clause-partly c = λ told.
    cut_partly c.make_cut.result c.args.file c.args.len c.args.self.now c.make_cut.new.self c.make_cut.ensures.ok
    c.make_cut.ensures.err

pub returns-clause-images : goal.returns-clause-images
returns-clause-images c =
    cut_images c.make_cut.result c.args.file c.args.len c.args.self.now c.make_cut.new.self c.make_cut.ensures.ok
    c.make_cut.ensures.err

pub returns-clause-past : goal.returns-clause-past
returns-clause-past c =
    cut_past c.make_cut.result c.args.file c.args.len c.args.self.now c.make_cut.new.self c.make_cut.ensures.ok
    c.make_cut.ensures.err
