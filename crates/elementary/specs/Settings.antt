-- The ranges of a port's settings.
use Rattle.std.specs.Prelude.{ℕ, Bool, cond, ◌&&◌, Some, None, Option, nat_le}
use Rattle.elementary.specs.declared.error.SettingsError.{SettingsError}
use Rattle.elementary.specs.declared.error.SettingsError.TheVariants.{OutOfRange}
use Rattle.elementary.specs.declared.settings.PublisherSettings.{PublisherSettings}
use Rattle.elementary.specs.declared.settings.SubscriberSettings.{SubscriberSettings}

abbrev pub within : ℕ → ℕ → ℕ → Bool
within low high n = nat_le low n && nat_le n high

abbrev pub publisher_in_range : PublisherSettings → Bool
publisher_in_range s =
    within 1 8 s.max_loaned_samples && (within 0 16 s.history_size && (within 1 8 s.max_subscribers
    && (within 1 8 s.subscriber_max_buffer_size && (within 1 8 s.subscriber_max_borrowed_samples && within 0 100 s.max_retries))))

abbrev pub subscriber_in_range : SubscriberSettings → Bool
subscriber_in_range s =
    within 1 8 s.max_publishers && (within 1 8 s.buffer_size && (within 1 8 s.max_borrowed_samples && within 1 4 s.max_expired_connections))

abbrev pub refused_unless : Bool → Option SettingsError
refused_unless b = cond b None (Some OutOfRange)

abbrev pub publisher_fault : PublisherSettings → Option SettingsError
publisher_fault s = refused_unless (publisher_in_range s)

abbrev pub subscriber_fault : SubscriberSettings → Option SettingsError
subscriber_fault s = refused_unless (subscriber_in_range s)
