use Rattle.std.proofs.Common.{length, map, refl, inr, sym, ◌∙◌}
use Rattle.std.proofs.lemmas.List.{length-map}
use Rattle.ldm_files.proofs.Files.{file_writes}
use Rattle.ldm_files.proofs.file_host.FileHostHost.write_at.Goals as goal

pub returns-clause-writes : goal.returns-clause-writes
returns-clause-writes g c =
    let now = c.args.self.now in
    file_writes (map (λ image. image.sectors) now.images.items) now.disk_faults c.end_disk_call.new.faults now.talk_faults now.wrote.items c.hand.new.wrote.items c.args.disk c.args.at (length c.args.bytes.now)
    c.requires.disk (now.counted ∙ sym (length-map now.images.items (λ image. image.sectors))) c.end_disk_call.ensures.rises c.hand.ensures

pub returns-clause-wrote : goal.returns-clause-wrote
returns-clause-wrote g c = c.hand.ensures

pub returns-clause-ticks : goal.returns-clause-ticks
returns-clause-ticks g c = record { rises = inr ((λ disk c. (λ left. left, λ left. left)), refl, refl) }
