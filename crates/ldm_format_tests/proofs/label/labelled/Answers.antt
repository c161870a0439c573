use Rattle.std.proofs.Common.{rules, arith, inl, ◌≡◌, length}
use Rattle.ldm_format_tests.proofs.label.labelled.Goals as goal

pub write_label-requires-clause-fits : goal.write_label-requires-clause-fits
write_label-requires-clause-fits c =
    let size : length c.deref_mut.result.now ≡ 4194304 = search rules in
    record {
      some_data = omega arith;
      before = λ is. omega arith;
      apart = inl (omega arith);
      within = omega (arith, size);
      room = omega arith;
      inside = omega (arith, size);
      some_area = omega arith;
      area = omega arith;
      log = omega arith;
    }
