use Rattle.std.proofs.Common.{◌∙◌, ℕ, slice_index, ap}
use Rattle.ldm_init.specs.NewGroup.{new_label}
use Rattle.ldm_init.proofs.GroupLaws.{labels_more, all_more}
use Rattle.ldm_init.proofs.labels.new_labels.Goals as goal

pub loop-disk-preserved : goal.loop-disk-preserved
loop-disk-preserved g c =
    let sizes = (g.H.Host.seen c.args.host.now).sizes in
    record {
      are = labels_more sizes c.args.guids.now c.loop-disk.disk c.loop-disk.labels.items c.new_label.result c.push.new.self.items c.in_ok-push.ensures.items c.loop-disk.invariant.are
          (c.new_label.ensures.is ∙ ap (λ (n : ℕ). new_label n (slice_index c.args.guids.now c.loop-disk.disk)) c.sectors.ensures.size);
      writable = all_more c.loop-disk.labels.items c.new_label.result c.push.new.self.items c.in_ok-push.ensures.items c.loop-disk.invariant.writable c.new_label.ensures.writable;
    }
