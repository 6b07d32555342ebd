-- A connection at the desk.
use Rattle.http_server.specs.declared.state.Config.{Config}

-- a head of 8 KiB, a body of 4 KiB, and 64 KiB that wait to be sent
abbrev pub desk_config : Config
desk_config = record {
  limits = record { max_head_len = 8192; max_extensions_len = 1024; max_trailers_len = 1024 };
  max_body_len = 4096;
  max_pending = 65536;
  read_size = 8192;
}
