use Rattle.std.proofs.Common.{◌≡◌, ◌++◌, ℕ, List, [], OnOk, unwrap_or, nat_eq, rules, subst}
use Rattle.std.specs.HashMap as hash
use Rattle.ldm_layout.specs.Grouped.{IsListsOf}
use Rattle.ldm_look.proofs.VolumeLaws.{same_volumes}
use Rattle.ldm_look.proofs.volumes.push_all_volumes.Goals as goal

pub returns : goal.returns
returns c =
    let lists : IsListsOf c.in_ok-parts.parts c.args.records.now = search rules in
    subst (λ (t : List ℕ). OnOk c.push_volumes.result (c.push_volumes.new.text ≡ c.args.text.now ++ t))
    (same_volumes c.in_ok-parts.parts (λ id. unwrap_or (hash.get nat_eq c.in_ok-partitions.partitions id) []) (λ id. unwrap_or (hash.get nat_eq c.in_ok-components.components id) [])
    c.args.records.now lists c.in_ok-partitions.ensures c.in_ok-components.ensures)
    c.push_volumes.ensures
