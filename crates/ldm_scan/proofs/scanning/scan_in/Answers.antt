use Rattle.std.proofs.Common.{◌≡◌, ◌∙◌, ℕ, List, Bool, IfOk, sym, ap, subst, nat_lt, slice_index}
use Rattle.ldm_host.specs.Seen.{image}
use Rattle.ldm_host.specs.Failed.{failed_since, fails_on}
use Rattle.ldm_scan.specs.Findings.{IsDiskFinding}
use Rattle.ldm_scan.proofs.FailLaws.{other_none, this_one, unread_is}
use Rattle.ldm_scan.proofs.scanning.scan_in.Goals as goal

pub finding_of-finding-requires : goal.finding_of-finding-requires
finding_of-finding-requires g c failed =
    let before = c.new-lone.result in
    let after = c.scan_image-scanned.new.host in
    let looks = c.scan_image-scanned.ensures.looks in
    let none : after.refused ≡ 0 = after.unrefused (ap (λ (l : List ℕ). slice_index l 0) looks.still.wrote ∙ c.new-lone.ensures.wrote) in
    c.is_unread.ensures ∙ unread_is before.unread before.refused after.unread after.refused c.new-lone.ensures.unread c.new-lone.ensures.refused none (looks.cause failed)

pub returns-clause-is : goal.returns-clause-is
returns-clause-is g c tells =
    let before = c.new-lone.result in
    let after = c.scan_image-scanned.new.host in
    let whole = image (g.H.Host.seen c.args.host).content c.args.disk in
    let here : image (g.H.Host.seen before.host).content before.disk ≡ whole =
    ap (λ (h : g.row.H.Denot). image (g.H.Host.seen h).content before.disk) c.new-lone.ensures.host ∙ ap (image (g.H.Host.seen c.args.host).content) c.new-lone.ensures.disk in
    let flag : c.is_unread.result ≡ fails_on c.args.disk (failed_since g.S.Start.start (g.H.Host.seen c.into_host.result)) =
    c.is_unread.ensures ∙ sym (c.into_host.ensures.noted tells c.args.disk ∙ this_one c.args.disk g.S.Start.chosen (nat_lt 0 after.unread) c.requires.chosen) in
    subst (λ (b : Bool). IfOk c.finding_of-finding.result (IsDiskFinding b whole)) flag
    (subst (λ (bytes : List ℕ). IfOk c.finding_of-finding.result (IsDiskFinding c.is_unread.result bytes)) here
    (c.finding_of-finding.ensures (image (g.H.Host.seen before.host).content before.disk) (c.scan_image-scanned.ensures.is tells)))

pub returns-clause-others : goal.returns-clause-others
returns-clause-others g c tells other ne =
    c.into_host.ensures.noted tells other ∙ other_none other g.S.Start.chosen c.args.disk (nat_lt 0 c.scan_image-scanned.new.host.unread) c.requires.chosen ne

pub returns-clause-quiet : goal.returns-clause-quiet
returns-clause-quiet g c =
    let seen = g.H.Host.seen in
    let quiet = c.scan_image-scanned.ensures.looks.quiet in
    record {
      said = ap (λ (h : g.row.H.Denot). (seen h).said) c.into_host.ensures.host ∙ quiet.said ∙ ap (λ (h : g.row.H.Denot). (seen h).said) c.new-lone.ensures.host;
      heard = ap (λ (h : g.row.H.Denot). (seen h).heard) c.into_host.ensures.host ∙ quiet.heard ∙ ap (λ (h : g.row.H.Denot). (seen h).heard) c.new-lone.ensures.host;
      input = ap (λ (h : g.row.H.Denot). (seen h).input) c.into_host.ensures.host ∙ quiet.input ∙ ap (λ (h : g.row.H.Denot). (seen h).input) c.new-lone.ensures.host;
    }
