-- The number of every refusal, and the value that it carries.
use Rattle.std.specs.Prelude.{ℕ, Some, None}
use Rattle.elementary.specs.declared.error.Refusal.{Refusal}
use Rattle.elementary.specs.declared.error.AllocationError.{AllocationError}
use Rattle.elementary.specs.declared.error.AllocationError.TheVariants as allocationError
use Rattle.elementary.specs.declared.error.DeallocationError.{DeallocationError}
use Rattle.elementary.specs.declared.error.DeallocationError.TheVariants as deallocationError
use Rattle.elementary.specs.declared.error.ZeroCopyCreationError.{ZeroCopyCreationError}
use Rattle.elementary.specs.declared.error.ZeroCopyCreationError.TheVariants as zeroCopyCreationError
use Rattle.elementary.specs.declared.error.ZeroCopyReceiveError.{ZeroCopyReceiveError}
use Rattle.elementary.specs.declared.error.ZeroCopyReceiveError.TheVariants as zeroCopyReceiveError
use Rattle.elementary.specs.declared.error.ZeroCopyReleaseError.{ZeroCopyReleaseError}
use Rattle.elementary.specs.declared.error.ZeroCopyReleaseError.TheVariants as zeroCopyReleaseError
use Rattle.elementary.specs.declared.error.ConnectionError.{ConnectionError}
use Rattle.elementary.specs.declared.error.ConnectionError.TheVariants as connectionError
use Rattle.elementary.specs.declared.error.LoanError.{LoanError}
use Rattle.elementary.specs.declared.error.LoanError.TheVariants as loanError
use Rattle.elementary.specs.declared.error.FillError.{FillError}
use Rattle.elementary.specs.declared.error.FillError.TheVariants as fillError
use Rattle.elementary.specs.declared.error.SendError.{SendError}
use Rattle.elementary.specs.declared.error.SendError.TheVariants as sendError
use Rattle.elementary.specs.declared.error.ReturnError.{ReturnError}
use Rattle.elementary.specs.declared.error.ReturnError.TheVariants as returnError
use Rattle.elementary.specs.declared.error.ReceiveError.{ReceiveError}
use Rattle.elementary.specs.declared.error.ReceiveError.TheVariants as receiveError
use Rattle.elementary.specs.declared.error.ReadError.{ReadError}
use Rattle.elementary.specs.declared.error.ReadError.TheVariants as readError
use Rattle.elementary.specs.declared.error.UpdateError.{UpdateError}
use Rattle.elementary.specs.declared.error.UpdateError.TheVariants as updateError
use Rattle.elementary.specs.declared.error.CloseError.{CloseError}
use Rattle.elementary.specs.declared.error.CloseError.TheVariants as closeError
use Rattle.elementary.specs.declared.error.SettingsError.{SettingsError}
use Rattle.elementary.specs.declared.error.SettingsError.TheVariants as settingsError

-- a refusal that carries nothing
abbrev pub number_alone : ℕ → Refusal
number_alone n = record { number = n; cause = None }

-- why a memory gives no bucket
abbrev pub allocation_refusal : AllocationError → Refusal
allocation_refusal allocationError.SizeTooLarge = number_alone 3
allocation_refusal allocationError.AlignmentFailure = number_alone 4
allocation_refusal allocationError.OutOfMemory = number_alone 5

-- why a memory frees no bucket
abbrev pub deallocation_refusal : DeallocationError → Refusal
deallocation_refusal deallocationError.NotTaken = number_alone 15

-- why an end of a connection is not created: the cause that a refused update carries
abbrev pub cause_number : ZeroCopyCreationError → ℕ
cause_number zeroCopyCreationError.IncompatibleBufferSize = 20
cause_number zeroCopyCreationError.AnotherInstanceIsAlreadyConnected = 21
cause_number zeroCopyCreationError.IncompatibleSettings = 22
cause_number zeroCopyCreationError.NoPlaceLeft = 23

abbrev pub creation_refusal : ZeroCopyCreationError → Refusal
creation_refusal e = number_alone (cause_number e)

-- why a connection hands out no offset
abbrev pub receiving_refusal : ZeroCopyReceiveError → Refusal
receiving_refusal zeroCopyReceiveError.ReceiveWouldExceedMaxBorrowValue = number_alone 14
receiving_refusal zeroCopyReceiveError.NotConnected = number_alone 15

-- why a connection takes no offset back, and so why a received chunk is not given back
abbrev pub releasing_refusal : ZeroCopyReleaseError → Refusal
releasing_refusal zeroCopyReleaseError.NotBorrowed = number_alone 15
releasing_refusal zeroCopyReleaseError.RetrieveBufferFull = number_alone 16

-- there is no such connection, or the caller's end of it is not attached
abbrev pub connection_refusal : ConnectionError → Refusal
connection_refusal connectionError.NotConnected = number_alone 15

-- why a publisher lends no chunk
abbrev pub loan_refusal : LoanError → Refusal
loan_refusal loanError.ExceedsMaxLoans = number_alone 2
loan_refusal loanError.ExceedsMaxLoanSize = number_alone 3
loan_refusal loanError.InternalFailure = number_alone 4
loan_refusal loanError.OutOfMemory = number_alone 5
loan_refusal loanError.ConnectionBrokenSinceSenderNoLongerExists = number_alone 8

-- why a loaned chunk is not filled
abbrev pub fill_refusal : FillError → Refusal
fill_refusal fillError.LoanNotLive = number_alone 6
fill_refusal fillError.OutOfBounds = number_alone 7

-- why a send fails. All but the first end the loan
abbrev pub send_refusal : SendError → Refusal
send_refusal sendError.LoanNotLive = number_alone 6
send_refusal sendError.ConnectionBrokenSinceSenderNoLongerExists = number_alone 8
send_refusal sendError.MalformedList = number_alone 9
send_refusal (sendError.ConnectionFailure e) = record { number = 10; cause = Some (cause_number e) }
send_refusal sendError.InternalError = number_alone 11
send_refusal sendError.ConnectionCorrupted = number_alone 12
send_refusal sendError.UnableToDeliver = number_alone 13

-- why a loan is not returned
abbrev pub return_refusal : ReturnError → Refusal
return_refusal returnError.LoanNotLive = number_alone 6

-- why a subscriber receives nothing though there is data
abbrev pub receive_refusal : ReceiveError → Refusal
receive_refusal receiveError.ExceedsMaxBorrows = number_alone 14

-- why a received chunk is not read
abbrev pub read_refusal : ReadError → Refusal
read_refusal readError.OutOfBounds = number_alone 7
read_refusal readError.NotBorrowed = number_alone 15

-- why a subscriber's list of publishers is not taken over, or not whole
abbrev pub update_refusal : UpdateError → Refusal
update_refusal updateError.MalformedList = number_alone 9
update_refusal (updateError.ConnectionFailure e) = record { number = 10; cause = Some (cause_number e) }
update_refusal updateError.ExpiredConnectionsFull = number_alone 17
update_refusal updateError.NoUnusedKey = number_alone 18

-- why a publisher is not closed
abbrev pub close_refusal : CloseError → Refusal
close_refusal closeError.ConnectionBrokenSinceSenderNoLongerExists = number_alone 8

-- why something is not made or not set
abbrev pub settings_refusal : SettingsError → Refusal
settings_refusal settingsError.OutOfRange = number_alone 1
