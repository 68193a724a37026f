-- What a report says of the roots, one after the other.
use Rattle.std.proofs.Common.{◌≡◌, ℕ, ◌+◌, List, [], ◌∷◌, ◌++◌, map, drop, sym, ap, ◌∙◌, append_assoc}
use Rattle.spm_session.specs.declared.outcome.Outcome.{Outcome}
use Rattle.spm_tool.specs.Report.{all_ended, ended_by, outcome_status, root_report, root_reports}
use Rattle.spm_tool.specs.declared.ending.PutEnding.{PutEnding}
use Rattle.spm_tool.specs.declared.ending.RootRun.{RootRun}

-- one root, and those behind it
module _ (roots : List (List ℕ)) (runs : List RootRun) (puts : List PutEnding) (place : ℕ) (root : List ℕ) (run : RootRun) (it : PutEnding)
    (roots_are : drop place roots ≡ root ∷ drop (place + 1) roots) (runs_are : drop place runs ≡ run ∷ drop (place + 1) runs)
    (puts_are : drop place puts ≡ it ∷ drop (place + 1) puts) where
  abbrev pub rest : List Outcome
  rest = all_ended (drop (place + 1) roots) (drop (place + 1) runs) (drop (place + 1) puts)

  ended_next : all_ended (drop place roots) (drop place runs) (drop place puts) ≡ ended_by it root run.outcome ∷ rest
  ended_next =
      ap (λ xs. all_ended xs (drop place runs) (drop place puts)) roots_are
      ∙ ap (λ xs. all_ended (root ∷ drop (place + 1) roots) xs (drop place puts)) runs_are
      ∙ ap (λ xs. all_ended (root ∷ drop (place + 1) roots) (run ∷ drop (place + 1) runs) xs) puts_are

  pub status_next : (status : ℕ) (before after : List ℕ) → status ≡ outcome_status (ended_by it root run.outcome) → after ≡ before ++ status ∷ []
      → after ++ map outcome_status rest ≡ before ++ map outcome_status (all_ended (drop place roots) (drop place runs) (drop place puts))
  status_next status before after is added =
      ap (λ given. given ++ map outcome_status rest) added ∙ append_assoc before (status ∷ []) (map outcome_status rest)
      ∙ ap (λ one. before ++ one ∷ map outcome_status rest) is
      ∙ ap (λ all. before ++ map outcome_status all) (sym ended_next)

  pub report_next : (lines before after : List ℕ) → lines ≡ root_report root (ended_by it root run.outcome) → after ≡ before ++ lines
      → after ++ root_reports (drop (place + 1) roots) rest
      ≡ before ++ root_reports (drop place roots) (all_ended (drop place roots) (drop place runs) (drop place puts))
  report_next lines before after are added =
      ap (λ text. text ++ root_reports (drop (place + 1) roots) rest) added
      ∙ append_assoc before lines (root_reports (drop (place + 1) roots) rest)
      ∙ ap (λ text. before ++ (text ++ root_reports (drop (place + 1) roots) rest)) are
      ∙ ap (λ xs. before ++ root_reports xs (ended_by it root run.outcome ∷ rest)) (sym roots_are)
      ∙ ap (λ all. before ++ root_reports (drop place roots) all) (sym ended_next)
