-- What is printed for a drill, or isn't for want of memory.
use Rattle.std.proofs.Common.{◌≡◌, inl, inr, ℕ, List, Bool, arith, le_refl, refl, subst}
use Rattle.nsq_outside.specs.Hosts.{HostContent, HostState, OnlyPrintFaults}
use Rattle.daemon_endings.specs.Prints.{PrintsSo}
use Rattle.daemon_endings.specs.Statuses.{status_of}
use Rattle.daemon_endings.specs.declared.ending.Ending.{Ending}
use Rattle.daemon_endings.specs.declared.ending.Ending.TheVariants.{Memory}
use Rattle.daemon_main.specs.Doing.{DrillsSo}
use Rattle.daemon_main.specs.DrillTexts.{ShowsDrill}

-- the bytes of its text were printed
pub drill_printed : {F C J K : Type 0} (tells : Bool) (s0 s1 : HostState F C J) (c0 c1 : HostContent K) (seed count : ℕ) (text bytes : List ℕ) (ending : Ending) → bytes ≡ text → ShowsDrill seed count text → PrintsSo tells s0 s1 c0 c1 bytes ending → DrillsSo tells s0 s1 c0 c1 seed count ending
drill_printed tells s0 s1 c0 c1 seed count text bytes ending is shows prints = inl (text, shows, subst (λ t. PrintsSo tells s0 s1 c0 c1 t ending) is prints)

-- memory was wanting
pub drill_wanting : {F C J K : Type 0} (tells : Bool) (s : HostState F C J) (c : HostContent K) (seed count : ℕ) → DrillsSo tells s s c c seed count Memory
drill_wanting tells s c seed count = inr (refl, record { state = refl; content = refl })

pub nothing_printed : {F C J : Type 0} (s : HostState F C J) → OnlyPrintFaults s s
nothing_printed s = (le_refl s.print_faults, refl)

pub memory_unserved : status_of Memory ≡ 4 → ⊥
memory_unserved is = absurd (omega (arith, is))
