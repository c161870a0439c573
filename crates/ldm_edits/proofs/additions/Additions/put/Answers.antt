use Rattle.std.proofs.Common.{arith, rules, sym, refl, not, max, ℕ}
use Rattle.ldm_edits.proofs.Common.{Record, id_of}
use Rattle.std.proofs.lemmas.Fn.{filter_same}
use Rattle.ldm_edits.specs.Staying.{leaves}
use Rattle.std.proofs.lemmas.List.Sums.{fold-append}
use Rattle.ldm_edits.proofs.additions.Additions.put.Goals as goal

pub returns-clause-ok : goal.returns-clause-ok
returns-clause-ok c =
    let stays = λ (r : Record). not (leaves c.args.leaving c.args.own.now.records r) in
    let kept = filter_same _ stays _ (λ x b f' k. search rules) _ _ c.retain.ensures.filtered in
    record {
      records = rw (kept, c.reserve.ensures.items) at c.in-Ok.ensures.items;
      maps_are = refl;
      need_is = refl;
      last_is = c.last_for-self.ensures.is;
      low = omega arith;
      max_id_is = rw (c.max_id_with-self.ensures, c.max_id.ensures, c.as_slice.ensures.value)
          (sym (fold-append (λ (top : ℕ) (r : Record). max top (id_of r)) 0 c.args.db.now.records c.append.new.self.items));
    }
