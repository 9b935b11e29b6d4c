-- believed
-- The default options of a session.
use Rattle.std.specs.Prelude.{None}
use Rattle.sftp_model.specs.declared.options.SftpOptions.{SftpOptions}

abbrev pub default_options : SftpOptions
default_options =
    record {
      flush_interval = 500;
      max_pending_requests = 100;
      requests_buffer_size = 100;
      responses_buffer_size = 1024;
      tokio_compat_file_write_limit = 655360;
      max_read_len = None;
      max_write_len = None;
      read_window = 1;
    }
