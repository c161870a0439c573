-- What is found of images: image by image, and that there is one answer.
use Rattle.std.proofs.Common.{◌≡◌, ℕ, zero, suc, ◌+◌, ◌<◌, ◌≤◌, ◌||◌, Bool, true, false, List, [], ◌∷◌, ◌++◌, length, drop, get_or, Option, Some, None, Result, Ok, IfOk, refl, sym, ◌∙◌, ap, subst, arith, append_assoc}
use Rattle.std.proofs.Math.Seq.{drop-cons}
use Rattle.std.proofs.lemmas.List.{append-nil}
use Rattle.ldm_host.specs.Seen.{Seen, image}
use Rattle.ldm_host.specs.Moves.{Still}
use Rattle.ldm_host.specs.declared.host.DiskRange.{DiskRange}
use Rattle.ldm_look.specs.declared.scanned.Scanned.{Scanned}
use Rattle.ldm_look.specs.Said.{Answer}
use Rattle.ldm_look.specs.Scan.{IsScanned}
use Rattle.ldm_label.specs.LabelOf.{label_of}
use Rattle.ldm_look.proofs.ScanLaws.{one_as}
use Rattle.ldm_words.specs.declared.job.Format.{Format}
use Rattle.ldm_words.specs.declared.status.Status.TheVariants.{Done}
use Rattle.ldm_scan.specs.declared.finding.Finding.{Finding}
use Rattle.ldm_scan.specs.declared.finding.Finding.TheVariants.{Unopened, Unread, Known}
use Rattle.ldm_host.specs.Failed.{failed_since, fails_on}
use Rattle.ldm_scan.specs.Findings.{disks_of, IsDiskFinding, IsFinding, AreFindings, IsFindingsAnswer, said_findings}
use Rattle.ldm_scan.proofs.FailLaws.{fails_then, or_false, same_content}

-- ---- one answer

one_read : (failed : Bool) (bytes : List ℕ) (a b : Finding) → IsDiskFinding failed bytes a → IsDiskFinding failed bytes b → a ≡ b
one_read true bytes a b x y = x ∙ sym y
one_read false bytes a b x y = x.2 ∙ ap (λ (s : Scanned). Known s) (one_as (label_of bytes) bytes x.0 y.0 x.1 y.1) ∙ sym y.2

one_finding : (failed : List DiskRange) (images : List (List ℕ)) (disk : ℕ) (cause : Option (List ℕ)) (a b : Finding)
    → IsFinding failed images disk cause a → IsFinding failed images disk cause b → a ≡ b
one_finding failed images disk None a b x y = one_read (fails_on disk failed) (image images disk) a b x y
one_finding failed images disk (Some cause) a b x y = x ∙ sym y

one_findings : (failed : List DiskRange) (images : List (List ℕ)) (disk : ℕ) (causes : List (Option (List ℕ))) (a b : List Finding)
    → AreFindings failed images disk causes a → AreFindings failed images disk causes b → a ≡ b
one_findings failed images disk [] [] [] x y = refl
one_findings failed images disk [] (f ∷ a) b x y = absurd x
one_findings failed images disk [] [] (f ∷ b) x y = absurd y
one_findings failed images disk (c ∷ causes) [] b x y = absurd x
one_findings failed images disk (c ∷ causes) (f ∷ a) [] x y = absurd y
one_findings failed images disk (c ∷ causes) (f ∷ a) (g ∷ b) x y =
    ap (λ (z : Finding). z ∷ a) (one_finding failed images disk c f g x.0 y.0)
    ∙ ap (λ (zs : List Finding). g ∷ zs) (one_findings failed images (disk + disks_of c) causes a b x.1 y.1)

pub one_answer : (format : Format) (causes : List (Option (List ℕ))) (failed : List DiskRange) (images : List (List ℕ)) (a b : Answer)
    → IsFindingsAnswer format causes failed images a → IsFindingsAnswer format causes failed images b → a ≡ b
one_answer format causes failed images a b x y =
    x.2 ∙ ap (λ (findings : List Finding). (said_findings format findings, Done)) (one_findings failed images 0 causes x.0 y.0 x.1 y.1) ∙ sym y.2

-- ---- image by image

-- what is found of a disk, by its failed reads alone
pub finding_as : (failed later : List DiskRange) (images : List (List ℕ)) (disk : ℕ) (cause : Option (List ℕ)) (f : Finding)
    → (disk < disk + disks_of cause → fails_on disk later ≡ fails_on disk failed) → IsFinding failed images disk cause f → IsFinding later images disk cause f
finding_as failed later images disk None f same is = subst (λ (b : Bool). IsDiskFinding b (image images disk) f) (sym (same (omega arith))) is
finding_as failed later images disk (Some cause) f same is = is

-- What is found of the images behind these makes all, whatever reads fail later of the disks behind these.
abbrev pub Continues : List DiskRange → List (List ℕ) → ℕ → List (Option (List ℕ)) → List (Option (List ℕ)) → List Finding → Type 0
Continues failed images disk rest causes findings =
    (later : List DiskRange) (more : List Finding) → ((d : ℕ) → d < disk → fails_on d later ≡ fails_on d failed)
    → AreFindings later images disk rest more → AreFindings later images 0 causes (findings ++ more)

pub continues_next : (failed also : List DiskRange) (images : List (List ℕ)) (disk : ℕ) (cause : Option (List ℕ)) (rest causes : List (Option (List ℕ))) (findings : List Finding) (f : Finding)
    → ((d : ℕ) → d < disk → fails_on d also ≡ fails_on d failed) → IsFinding also images disk cause f
    → Continues failed images disk (cause ∷ rest) causes findings → Continues also images (disk + disks_of cause) rest causes (findings ++ f ∷ [])
continues_next failed also images disk cause rest causes findings f earlier is before later more same are =
    subst (λ (l : List Finding). AreFindings later images 0 causes l) (sym (append_assoc findings (f ∷ []) more))
    (before later (f ∷ more) (λ d lt. same d (omega (arith, lt)) ∙ earlier d lt)
    (finding_as also later images disk cause f (λ lt. same disk lt) is, are))

-- what a host says of its reads, call by call
module _ (start old new : Seen) (first : ∥ Still start old ∥₁) (second : ∥ Still old new ∥₁) where
  pub continues_host : (disk : ℕ) (cause : Option (List ℕ)) (rest causes : List (Option (List ℕ))) (findings : List Finding) (f : Finding)
      → ((d : ℕ) → disk ≤ d → fails_on d (failed_since start old) ≡ false) → ((d : ℕ) → d < disk → fails_on d (failed_since old new) ≡ false)
      → IsFinding (failed_since old new) old.content disk cause f → Continues (failed_since start old) start.content disk (cause ∷ rest) causes findings
      → Continues (failed_since start new) start.content (disk + disks_of cause) rest causes (findings ++ f ∷ [])
  continues_host disk cause rest causes findings f ahead earlier is before =
      continues_next (failed_since start old) (failed_since start new) start.content disk cause rest causes findings f
      (λ d lt. fails_then d start old new first second ∙ ap (λ (b : Bool). fails_on d (failed_since start old) || b) (earlier d lt) ∙ or_false (fails_on d (failed_since start old)))
      (subst (λ (l : List (List ℕ)). IsFinding (failed_since start new) l disk cause f) (same_content start old first)
      (finding_as (failed_since old new) (failed_since start new) old.content disk cause f
      (λ lt. fails_then disk start old new first second ∙ ap (λ (b : Bool). b || fails_on disk (failed_since old new)) (ahead disk (omega arith))) is))
      before

  pub none_ahead : (d : ℕ) → fails_on d (failed_since start old) ≡ false → fails_on d (failed_since old new) ≡ false → fails_on d (failed_since start new) ≡ false
  none_ahead d before now = fails_then d start old new first second ∙ ap (λ (b : Bool). b || fails_on d (failed_since old new)) before ∙ now

-- the image that is looked at, and those behind it
pub rest_is : (causes : List (Option (List ℕ))) (i : ℕ) (cause : Option (List ℕ)) → i < length causes → cause ≡ get_or causes i cause → drop i causes ≡ cause ∷ drop (i + 1) causes
rest_is causes i cause lt is =
    let next : suc i ≡ i + 1 = omega arith in
    drop-cons causes i cause lt ∙ ap (λ (x : Option (List ℕ)). x ∷ drop (suc i) causes) (sym is) ∙ ap (λ (n : ℕ). cause ∷ drop n causes) next

pub none_left : (causes : List (Option (List ℕ))) (i : ℕ) → length causes ≤ i → drop i causes ≡ []
none_left [] zero le = refl
none_left [] (suc i) le = refl
none_left (c ∷ causes) zero le = absurd (omega arith)
none_left (c ∷ causes) (suc i) le = none_left causes i (omega arith)

-- all images were looked at
pub findings_whole : (failed : List DiskRange) (images : List (List ℕ)) (disk : ℕ) (rest causes : List (Option (List ℕ))) (findings : List Finding)
    → rest ≡ [] → Continues failed images disk rest causes findings → AreFindings failed images 0 causes findings
findings_whole failed images disk rest causes findings none found =
    subst (λ (l : List Finding). AreFindings failed images 0 causes l) (append-nil findings)
    (found failed [] (λ d lt. refl) (subst (λ (l : List (Option (List ℕ))). AreFindings failed images disk l []) (sym none) tt))

pub ok_at : {A E : Type 0} (r : Result A E) (P : A → Type 0) (a : A) → r ≡ Ok a → IfOk r P → P a
ok_at r P a is holds = subst (λ x. IfOk x P) is holds
