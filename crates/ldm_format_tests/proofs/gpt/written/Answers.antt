use Rattle.std.proofs.Common.{rules, arith, inr, ◌≡◌, length}
use Rattle.ldm_format_tests.proofs.gpt.written.Goals as goal

pub write_gpt_label-requires-clause-fits : goal.write_gpt_label-requires-clause-fits
write_gpt_label-requires-clause-fits c =
    let size : length c.deref_mut.result.now ≡ 2131968 = search rules in
    record {
      some_data = omega arith;
      before = λ is. absurd (cc is);
      apart = inr (omega arith);
      within = omega (arith, size);
      room = omega arith;
      inside = omega (arith, size);
      some_area = omega arith;
      area = omega arith;
      log = omega arith;
    }
