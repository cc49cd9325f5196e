-- The usage of the modes: which parts of the text are printed for each.
use Rattle.std.specs.Prelude.{ℕ, List, [], ◌∷◌, Option, Some, None}
use Rattle.cmd_words.specs.declared.mode_name.ModeName.{ModeName}
use Rattle.cmd_words.specs.declared.mode_name.ModeName.TheVariants as name
use Rattle.cmd_words.specs.declared.usage.TheConstants.{BUNDLE_USAGE, FILES_USAGE, REPLAY_USAGE, FOLLOW_USAGE, TOLD_USAGE, CHECK_USAGE, EXPLAIN_USAGE, OTHER_USAGE, REPORT_OPTIONS, STATE_OPTION, FOLLOW_OPTIONS, LIMIT_OPTION, RUN_OPTIONS, TOLD_OPTIONS}

-- the usage of all modes, then each option once
abbrev pub whole_usage : List (List ℕ)
whole_usage =
    BUNDLE_USAGE.now ∷ FILES_USAGE.now ∷ FOLLOW_USAGE.now ∷ REPLAY_USAGE.now ∷ TOLD_USAGE.now ∷ CHECK_USAGE.now ∷ EXPLAIN_USAGE.now ∷ OTHER_USAGE.now
    ∷ REPORT_OPTIONS.now ∷ STATE_OPTION.now ∷ FOLLOW_OPTIONS.now ∷ LIMIT_OPTION.now ∷ RUN_OPTIONS.now ∷ TOLD_OPTIONS.now ∷ []

-- the parts of the usage of a mode and its options; where no mode is named, of all
abbrev pub usage_of : Option ModeName → List (List ℕ)
usage_of (Some name.Bundle) = BUNDLE_USAGE.now ∷ REPORT_OPTIONS.now ∷ LIMIT_OPTION.now ∷ RUN_OPTIONS.now ∷ []
usage_of (Some name.Files) = FILES_USAGE.now ∷ REPORT_OPTIONS.now ∷ LIMIT_OPTION.now ∷ RUN_OPTIONS.now ∷ []
usage_of (Some name.Replay) = REPLAY_USAGE.now ∷ STATE_OPTION.now ∷ LIMIT_OPTION.now ∷ []
usage_of (Some name.Follow) = FOLLOW_USAGE.now ∷ STATE_OPTION.now ∷ FOLLOW_OPTIONS.now ∷ LIMIT_OPTION.now ∷ RUN_OPTIONS.now ∷ []
usage_of (Some name.Told) = TOLD_USAGE.now ∷ TOLD_OPTIONS.now ∷ []
usage_of (Some name.Check) = CHECK_USAGE.now ∷ []
usage_of (Some name.Explain) = EXPLAIN_USAGE.now ∷ []
usage_of (Some name.Help) = whole_usage
usage_of (Some name.Version) = whole_usage
usage_of None = whole_usage
