-- What printing a text leaves.
use Rattle.std.specs.Prelude.{◌≡◌, ℕ, Bool, IsTrue, List, ◌++◌, take}
use Rattle.nsq_outside.specs.Causes.{Rose}
use Rattle.nsq_outside.specs.Hosts.{HostContent, HostState, OnlyPrintFaults}
use Rattle.daemon_endings.specs.declared.ending.Ending.{Ending}
use Rattle.daemon_endings.specs.declared.ending.Ending.TheVariants.{OutputFault, Printed}

module _ {F C J K : Type 0} (tells : Bool) (host host' : HostState F C J) (old new : HostContent K) where
  -- a text was printed; or a part of it from its front, and the count of standard output rose
  pub data PrintsTo (text : List ℕ) : Ending → Type 0 where
    whole : (IsTrue tells → new ≡ record old { printed = old.printed ++ text }) → PrintsTo text Printed
    part : (IsTrue tells → (n : ℕ) × (new ≡ record old { printed = old.printed ++ take n text })) → Rose host.print_faults host'.print_faults → PrintsTo text OutputFault

  pub record PrintsSo (text : List ℕ) (ending : Ending) : Type 0 where
    pub prints : PrintsTo text ending
    pub state : OnlyPrintFaults host host'
